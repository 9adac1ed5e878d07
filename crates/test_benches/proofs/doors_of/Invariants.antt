use Rattle.std.proofs.Common.{All}
use Rattle.hsm_io.specs.MemoryBench.{IsNewDoor}
use Rattle.test_benches.proofs.doors_of.Given as goal

abbrev pub invariant-loop-port : goal.invariant-loop-port
invariant-loop-port l = All (λ door. IsNewDoor door.1) l.doors.items
