use Rattle.std.proofs.Common.{◌≡◌, take}
use Rattle.hsm_des.specs.Bits.{bits, number, pick}
use Rattle.hsm_des.proofs.permutations.permute.Given as goal

abbrev pub invariant-loop-position : goal.invariant-loop-position
invariant-loop-position g l = l.out ≡ number (pick (take l.position-index l.table) (bits l.width l.x))
