use Rattle.hsm_program.proofs.SettingsLaws.{same_answer}
use Rattle.hsm_program.proofs.local.run_script.Goals as goal

pub returns-in-Ok-clause-script : goal.returns-in-Ok-clause-script
returns-in-Ok-clause-script g c = λ settings bytes config told_config told_file says.
    same_answer settings bytes c.in-Ok.config config c.run_module.result (g.S.Sink.stands_for c.args.out.now) (g.S.Sink.stands_for c.run_file.new.out)
    c.run_file.result.0 c.run_file.result.1 (c.in-Ok.ensures.told settings told_config) says c.run_module.ensures
    (c.run_file.ensures.script bytes (c.in-Ok.ensures.files c.args.file.now bytes told_file))
