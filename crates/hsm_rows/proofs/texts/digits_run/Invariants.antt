use Rattle.std.proofs.Common.{◌≡◌, ◌+◌, drop}
use Rattle.std.specs.List.{prefix_len}
use Rattle.std.specs.Char.{is_ascii_digit}
use Rattle.hsm_rows.proofs.texts.digits_run.Given as goal

abbrev pub invariant-loop-k : goal.invariant-loop-k
invariant-loop-k l = prefix_len is_ascii_digit l.rest ≡ l.k + prefix_len is_ascii_digit (drop l.k l.rest)
