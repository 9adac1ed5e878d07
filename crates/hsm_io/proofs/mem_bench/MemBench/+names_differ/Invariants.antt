use Rattle.std.proofs.Common.{length}
use Rattle.hsm_io.proofs.mem_bench.MemBench.+names_differ.Given as goal

abbrev pub decreases-names_differ : goal.decreases-names_differ
decreases-names_differ l = length l.files.now
