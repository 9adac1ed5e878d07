use Rattle.std.proofs.Common.{◌≡◌, ◌<◌, ℕ, length, get_or, take}
use Rattle.hsm_verify.specs.Values.{occurrences}
use Rattle.hsm_verify.proofs.offsets.digit_counts.Given as goal

abbrev pub invariant-loop-digit : goal.invariant-loop-digit
invariant-loop-digit l = (length l.counts ≡ 10) × ((d : ℕ) → d < 10 → get_or l.counts d 0 ≡ occurrences (take l.digit-index l.table) d)
