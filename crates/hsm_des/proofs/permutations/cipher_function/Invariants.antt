use Rattle.std.proofs.Common.{◌≡◌}
use Rattle.hsm_des.specs.Bits.{bits}
use Rattle.hsm_des.proofs.Rounds.{mixed_so_far}
use Rattle.hsm_des.proofs.permutations.cipher_function.Given as goal

abbrev pub invariant-loop-i : goal.invariant-loop-i
invariant-loop-i l = l.out ≡ mixed_so_far l.i (bits 48 l.sixes)
