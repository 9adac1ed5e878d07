use Rattle.std.proofs.Common.{ap, ◌∙◌}
use Rattle.hsm_program.specs.Words.{names}
use Rattle.hsm_program.proofs.CommandLaws.{of_check, of_script}
use Rattle.hsm_program.proofs.local.hsm_local.Goals as goal

pub returns-in-Script-clause-script : goal.returns-in-Script-clause-script
returns-in-Script-clause-script g c =
    let bytes_of = (g.B.Bench.files c.args.bench.now).bytes_of in
    of_script (names c.args.words.now) c.args.command.now c.in-Script.config c.in-Script.file _ c.in-Script.is c.requires.command
    (λ settings bytes config told_config told_file says.
    c.run_script.ensures.script settings bytes config (ap bytes_of c.word_at.ensures ∙ told_config)
    (ap bytes_of c.word_at-in-Script.ensures ∙ told_file) says)

pub returns-in-Check-clause-check : goal.returns-in-Check-clause-check
returns-in-Check-clause-check g c =
    let bytes_of = (g.B.Bench.files c.args.bench.now).bytes_of in
    of_check (names c.args.words.now) c.args.command.now c.in-Check.config _ c.in-Check.is c.requires.command
    (λ bytes config told_config says. c.check_config.ensures.check bytes config (ap bytes_of c.word_at-in-Check.ensures ∙ told_config) says)
