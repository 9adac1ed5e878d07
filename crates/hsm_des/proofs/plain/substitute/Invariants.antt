use Rattle.std.proofs.Common.{◌≡◌, ◌*◌, length, take}
use Rattle.hsm_des.specs.Des.{substitute}
use Rattle.hsm_des.specs.Tables.{boxes}
use Rattle.hsm_des.proofs.plain.substitute.Given as goal

abbrev pub invariant-loop-i : goal.invariant-loop-i
invariant-loop-i l = (length l.out ≡ 32) × (take (4 * l.i) l.out ≡ substitute (take l.i boxes) l.x)
