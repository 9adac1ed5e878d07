use Rattle.std.proofs.Common.{Some, ap, subst}
use Rattle.hsm_io.specs.Files.{Closed}
use Rattle.hsm_io.specs.MemoryForms.{FilesState, file_side}
use Rattle.hsm_io.specs.MemoryBench.{BenchState}
use Rattle.hsm_io.proofs.FileLemmas.{closed}
use Rattle.hsm_io.proofs.mem_bench.MemBenchBench.close_file.Goals as goal

pub returns-clause-files : goal.returns-clause-files
returns-clause-files c =
    let same = ap (λ (b : BenchState). b.files) c.self.view_is in
    let Done : FilesState → Type 0 = λ b. Closed (file_side b) (file_side c.close.new.self) (Some c.args.file.stream) c.args.file.faults in
    subst Done same (rw c.close.ensures.after (closed c.self.inside.files c.args.file c.close.ensures.held c.close.ensures.small))
