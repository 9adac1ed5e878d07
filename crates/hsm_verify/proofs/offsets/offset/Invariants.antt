use Rattle.std.proofs.Common.{◌≡◌, ◌-◌, length, take, drop, replicate}
use Rattle.hsm_verify.specs.Values.{offset_digits}
use Rattle.hsm_verify.proofs.offsets.offset.Given as goal

abbrev pub invariant-loop-i : goal.invariant-loop-i
invariant-loop-i l =
    (length l.out ≡ 12) × (take l.i l.out ≡ offset_digits (take l.i l.digits) (take l.i l.natural)) × (drop l.check l.out ≡ replicate (12 - l.check) 15)
