use Rattle.std.proofs.Common.{map, slice_index}
use Rattle.hsm_nibbles.proofs.Filling.{Filled}
use Rattle.hsm_verify.proofs.offsets.natural_pin.Given as goal

abbrev pub invariant-loop-i : goal.invariant-loop-i
invariant-loop-i l = Filled (map (slice_index l.table) l.nibbles) l.out l.i
