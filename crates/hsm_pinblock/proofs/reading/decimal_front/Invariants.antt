use Rattle.std.proofs.Common.{◌≡◌, ℕ, ◌<◌, get_or, true}
use Rattle.hsm_types.specs.Pins.{is_decimal}
use Rattle.hsm_pinblock.proofs.reading.decimal_front.Given as goal

abbrev pub invariant-loop-i : goal.invariant-loop-i
invariant-loop-i l = (k : ℕ) → k < l.i → is_decimal (get_or l.nibbles k 0) ≡ true
