use Rattle.std.proofs.Common.{◌≡◌, ◌≤◌, take}
use Rattle.hsm_rows.specs.Forms.{decimal_from}
use Rattle.hsm_session.proofs.lines.number_within.Given as goal

abbrev pub invariant-digits : goal.invariant-digits
invariant-digits l = record {
  number : l.number ≡ decimal_from 0 (take l.digit-index l.text);
  within : l.number ≤ l.most;
}
