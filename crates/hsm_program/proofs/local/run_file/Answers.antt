use Rattle.std.proofs.Common.{◌∙◌, []}
use Rattle.hsm_program.proofs.ScriptLaws.{served, stopped}
use Rattle.hsm_program.proofs.local.run_file.Goals as goal

pub returns-in-Ok-script_run-clause-script : goal.returns-in-Ok-script_run-clause-script
returns-in-Ok-script_run-clause-script g c = λ bytes told.
    let read = c.in-Ok.ensures.told bytes told in
    served c.legal_runs.ensures c.clear_in_runs.ensures.officers (λ m lines last text over h. c.clear_in_runs.ensures.clear m [] lines last text over h) c.args.module.now bytes c.deref.result.now c.in-Ok-script_run.over c.status_of.result c.end_with-in-Ok-script_run.result
    c.in-Ok-new.ledger c.script_run.new.ledger (g.S.Sink.stands_for c.args.out.now) (g.S.Sink.stands_for c.script_run.new.out) (c.deref.ensures.value ∙ read.0) read.1 c.in-Ok-new.ensures
    c.in-Ok-script_run.ensures.answers c.end_with-in-Ok-script_run.ensures c.status_of.ensures

pub returns-clause-script : goal.returns-clause-script
returns-clause-script g c = λ bytes told.
    let read = c.in-Ok.ensures.told bytes told in
    stopped c.legal_runs.ensures c.clear_in_runs.ensures.officers (λ m lines last text over h. c.clear_in_runs.ensures.clear m [] lines last text over h) c.args.module.now bytes c.deref.result.now c.in-Err-Out.field-0 3 c.end_with-in-Err-Out.result c.in-Ok-new.ledger c.script_run.new.ledger
    (g.S.Sink.stands_for c.args.out.now) (g.S.Sink.stands_for c.script_run.new.out) (c.deref.ensures.value ∙ read.0) read.1 c.in-Ok-new.ensures
    c.in-Err-Out.ensures.answers c.in-Err-Out.field-0-is c.end_with-in-Err-Out.ensures
