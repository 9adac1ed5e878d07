use Rattle.hsm_program.proofs.FilesLaws.{files_stay}
use Rattle.hsm_program.proofs.local.read_file.Goals as goal

pub returns-clause-told : goal.returns-clause-told
returns-clause-told g c = λ bytes told. c.read_all-bytes.ensures.told _ (c.in-Some.ensures.files.bytes bytes told).0

pub returns-clause-files : goal.returns-clause-files
returns-clause-files g c =
    files_stay (g.B.Bench.files c.args.bench.now) (g.B.Bench.files c.open_file.new.self) (g.B.Bench.files c.close_file.new.self) c.args.name.now
    (g.B.File.Source.stream c.in-Some.file) (g.B.File.Source.stream c.read_all-bytes.new.source) (g.B.File.Source.faults c.in-Some.file)
    (g.B.File.Source.faults c.read_all-bytes.new.source) c.in-Some.ensures.files c.read_all-bytes.ensures.passed c.close_file.ensures.files
