use Rattle.std.proofs.Common.{◌≡◌, ◌-◌, length, take, drop, replicate}
use Rattle.hsm_answers.specs.Draws.{drawn_fill}
use Rattle.hsm_answers.proofs.draws.draw_fill.Given as goal

abbrev pub invariant-loop-i : goal.invariant-loop-i
invariant-loop-i l =
    (length l.out ≡ 14) × (take l.i l.out ≡ drawn_fill l.module l.format l.place l.i) × (drop l.count l.out ≡ replicate (14 - l.count) 15)
