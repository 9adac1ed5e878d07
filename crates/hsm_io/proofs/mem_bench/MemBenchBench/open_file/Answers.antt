use Rattle.std.proofs.Common.{◌≡◌, ◌<◌, ◌^◌, Option, Some, None, MatchOption, is_some, false, List, ℕ, ap, sym, subst}
use Rattle.hsm_io.specs.Files.{Opened, NotOpened}
use Rattle.hsm_io.specs.MemoryForms.{FilesState, FileState, file_side, opened_of, after_open}
use Rattle.hsm_io.specs.MemoryBench.{BenchState}
use Rattle.hsm_io.proofs.FileLemmas.{opened, not_opened}
use Rattle.hsm_io.proofs.mem_bench.MemBenchBench.open_file.Goals as goal

by : (bench after : FilesState) (name : List ℕ) (o : Option FileState) → is_some bench.out ≡ false → bench.faults < 2 ^ 64 → o ≡ opened_of bench name → after ≡ after_open bench name o
    → MatchOption o (NotOpened (file_side bench) (file_side after) name) (λ file. Opened (file_side bench) (file_side after) name (Some file.stream) file.faults)
by bench after name None none small answer is = rw is (not_opened bench name none small)
by bench after name (Some file) none small answer is = rw is (opened bench name file none answer)

pub returns-clause-files : goal.returns-clause-files
returns-clause-files c =
    let same = ap (λ (b : BenchState). b.files) c.self.view_is in
    let Done : FilesState → Type 0 = λ b. MatchOption c.open.result (NotOpened (file_side b) (file_side c.open.new.self) c.args.name.now)
    (λ file. Opened (file_side b) (file_side c.open.new.self) c.args.name.now (Some file.stream) file.faults) in
    let none = subst (λ (b : FilesState). is_some b.out ≡ false) (sym same) c.requires in
    subst Done same (by c.self.inside.files c.open.new.self c.args.name.now c.open.result none c.open.ensures.small c.open.ensures.answer c.open.ensures.after)
