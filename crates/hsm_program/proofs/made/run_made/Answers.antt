use Rattle.std.proofs.Common.{◌∙◌, []}
use Rattle.hsm_tally.specs.Tallies.{StandsFor}
use Rattle.hsm_program.proofs.MadeLaws.{made_run, no_line}
use Rattle.hsm_program.proofs.made.run_made.Goals as goal

pub returns-in-Ok-script_run : goal.returns-in-Ok-script_run
returns-in-Ok-script_run c =
    made_run c.made_scripts_read.ensures c.legal_runs.ensures c.clear_in_runs.ensures.officers (λ m lines last text over h. c.clear_in_runs.ensures.clear m [] lines last text over h)
    c.args.count c.args.seed c.made_module-module.result c.deref.result.now c.in-Ok-script_run.field-0 c.in-Ok-new.ledger c.script_run.new.ledger c.new-tally.result c.script_run.new.out
    c.made_module-module.ensures (c.deref.ensures.value ∙ c.in-Ok.ensures) c.in-Ok-new.ensures c.new-tally.ensures c.in-Ok-script_run.ensures.answers

pub unreachable-requires : goal.unreachable-requires
unreachable-requires c =
    no_line c.made_scripts_read.ensures c.args.count c.args.seed c.made_module-module.result c.deref.result.now c.in-Err-Line.field-0 c.in-Ok-new.ledger c.script_run.new.ledger
    (StandsFor c.new-tally.result) (StandsFor c.script_run.new.out) c.made_module-module.ensures (c.deref.ensures.value ∙ c.in-Ok.ensures) c.in-Err-Line.ensures.answers c.in-Err-Line.field-0-is
