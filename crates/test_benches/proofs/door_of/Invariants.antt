use Rattle.std.proofs.Common.{All}
use Rattle.hsm_io.specs.MemoryLinks.{IsUntouched}
use Rattle.test_benches.proofs.door_of.Given as goal

abbrev pub invariant-loop-input : goal.invariant-loop-input
invariant-loop-input l = All IsUntouched l.links.items
