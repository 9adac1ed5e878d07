use Rattle.std.proofs.Common.{length}
use Rattle.hsm_io.proofs.mem_bench.MemBench.+ports_differ.Given as goal

abbrev pub decreases-ports_differ : goal.decreases-ports_differ
decreases-ports_differ l = length l.doors.now
