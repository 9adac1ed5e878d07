use Rattle.std.proofs.Common.{◌≡◌, List, ℕ, None, Some, refl, sym, ap, subst, ◌∙◌}
use Rattle.hsm_lmk.specs.declared.kept.KeyEntry.{KeyEntry}
use Rattle.hsm_rows.specs.Table.{shape_of}
use Rattle.hsm_answers.specs.Asks.{ask_of}
use Rattle.hsm_answers.specs.Kept.{Opens, opened_by}
use Rattle.hsm_answers.specs.Messages.{command_of, enabled_row}
use Rattle.hsm_session.proofs.PlanLaws.{no_command, none_opened, row_ask_is, row_command, row_opened, row_there, unknown_ask}
use Rattle.hsm_session.proofs.plans.prepare_cached.Goals as goal

pub returns-in-None-clause-ask : goal.returns-in-None-clause-ask
returns-in-None-clause-ask c =
    let m = c.args.module.now in
    let message = c.args.message.now in
    sym (unknown_ask m c.args.kind message (row_there m c.args.kind message c.cut-parts.result.code.now None c.cut-parts.ensures.code c.in-None.ensures.row))

pub returns-in-None-clause-plan : goal.returns-in-None-clause-plan
returns-in-None-clause-plan c =
    let m = c.args.module.now in
    let message = c.args.message.now in
    record {
      least = c.requires.least;
      most = c.requires.most;
      command = no_command m c.args.kind message (row_there m c.args.kind message c.cut-parts.result.code.now None c.cut-parts.ensures.code c.in-None.ensures.row);
    }

pub returns-in-None-clause-cache : goal.returns-in-None-clause-cache
returns-in-None-clause-cache c =
    let m = c.args.module.now in
    let message = c.args.message.now in
    let cache = c.args.cache.now in
    subst (Opens m cache cache)
    (sym (none_opened m c.args.kind message (row_there m c.args.kind message c.cut-parts.result.code.now None c.cut-parts.ensures.code c.in-None.ensures.row)))
    (record { agrees = c.requires.cache; capacity = refl; kept = refl })

pub returns-in-Some-clause-ask : goal.returns-in-Some-clause-ask
returns-in-Some-clause-ask c =
    let m = c.args.module.now in
    let message = c.args.message.now in
    let row = shape_of c.in-Some.row.now in
    let found : enabled_row m c.args.kind (command_of m c.args.kind message) ≡ Some row =
    row_there m c.args.kind message c.cut-parts.result.code.now (Some row) c.cut-parts.ensures.code c.in-Some.ensures.row in
    c.prepare_cached.ensures.ask ∙ ap (λ (t : List ℕ). ask_of m row t) c.cut-parts.ensures.text ∙ sym (row_ask_is m c.args.kind message row found)

pub returns-in-Some-clause-plan : goal.returns-in-Some-clause-plan
returns-in-Some-clause-plan c =
    let m = c.args.module.now in
    let message = c.args.message.now in
    let row = shape_of c.in-Some.row.now in
    let found : enabled_row m c.args.kind (command_of m c.args.kind message) ≡ Some row =
    row_there m c.args.kind message c.cut-parts.result.code.now (Some row) c.cut-parts.ensures.code c.in-Some.ensures.row in
    record {
      least = c.requires.least;
      most = c.requires.most;
      command = row_command m c.args.kind message c.cut-parts.result.text.now row c.prepare_cached.result found c.cut-parts.ensures.text c.prepare_cached.ensures.row c.prepare_cached.ensures.text c.prepare_cached.ensures.plan;
    }

pub returns-in-Some-clause-cache : goal.returns-in-Some-clause-cache
returns-in-Some-clause-cache c =
    let m = c.args.module.now in
    let message = c.args.message.now in
    let row = shape_of c.in-Some.row.now in
    let found : enabled_row m c.args.kind (command_of m c.args.kind message) ≡ Some row =
    row_there m c.args.kind message c.cut-parts.result.code.now (Some row) c.cut-parts.ensures.code c.in-Some.ensures.row in
    subst (λ (keys : List KeyEntry). Opens m c.args.cache.now c.prepare_cached.new.cache keys)
    (ap (opened_by m row) c.cut-parts.ensures.text ∙ row_opened m c.args.kind message row found)
    c.prepare_cached.ensures.cache
