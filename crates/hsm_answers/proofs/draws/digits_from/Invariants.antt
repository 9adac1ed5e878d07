use Rattle.std.proofs.Common.{◌≡◌, length, take}
use Rattle.hsm_answers.specs.Draws.{drawn_digits}
use Rattle.hsm_answers.proofs.draws.digits_from.Given as goal

abbrev pub invariant-loop-i : goal.invariant-loop-i
invariant-loop-i l = (length l.out ≡ 12) × (take l.i l.out ≡ drawn_digits l.module l.place l.i)
