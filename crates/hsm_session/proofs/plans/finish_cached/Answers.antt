use Rattle.std.proofs.Common.{◌++◌, List, ℕ, length, sym, ap, subst, ◌∙◌, arith}
use Rattle.std.specs.Option.{option_map}
use Rattle.hsm_answers.specs.Answers.{answer}
use Rattle.hsm_answers.specs.Messages.{header_of, unknown_answer}
use Rattle.hsm_commands.specs.Plans.{plan_row, plan_text}
use Rattle.hsm_session.specs.Plans.{IsCommandOf}
use Rattle.hsm_session.proofs.PlanLaws.{command_answer_is, room_is, unknown_answer_is}
use Rattle.hsm_session.proofs.plans.finish_cached.Goals as goal

pub put_unknown-requires-clause-room : goal.put_unknown-requires-clause-room
put_unknown-requires-clause-room c =
    omega (arith, ap length (c.put.ensures ∙ ap (λ (old : List ℕ). old ++ c.cut-parts.result.header.now) c.clear.ensures), c.cut-parts.ensures.short)

pub finish_cached-requires-clause-room : goal.finish_cached-requires-clause-room
finish_cached-requires-clause-room c =
    omega (arith, ap length (c.put.ensures ∙ ap (λ (old : List ℕ). old ++ c.cut-parts.result.header.now) c.clear.ensures), c.cut-parts.ensures.short)

pub finish_cached-requires-clause-whole : goal.finish_cached-requires-clause-whole
finish_cached-requires-clause-whole c = λ echo.
    let m = c.args.module.now in
    let plan = c.args.plan.now in
    let command = subst (IsCommandOf m plan.kind plan.message.now) c.in-Some.is c.requires.plan.command in
    omega (
      arith,
      room_is m plan.kind plan.message.now (plan_row c.in-Some.command) c.requires.plan.least c.requires.plan.most (sym command.row),
      ap length (c.put.ensures ∙ ap (λ (old : List ℕ). old ++ c.cut-parts.result.header.now) c.clear.ensures ∙ c.cut-parts.ensures.header),
      ap length command.text,
    )

pub returns-in-None : goal.returns-in-None
returns-in-None c =
    let m = c.args.module.now in
    let plan = c.args.plan.now in
    let message = plan.message.now in
    let none = sym c.requires.plan.command.row ∙ ap (option_map plan_row) c.in-None.is in
    c.put_unknown.ensures
    ∙ ap (λ (text : List ℕ). text ++ unknown_answer plan.kind c.cut-parts.result.code.now)
    (c.put.ensures ∙ ap (λ (old : List ℕ). old ++ c.cut-parts.result.header.now) c.clear.ensures ∙ c.cut-parts.ensures.header)
    ∙ ap (λ (code : List ℕ). header_of m plan.kind message ++ unknown_answer plan.kind code) c.cut-parts.ensures.code
    ∙ sym (unknown_answer_is m plan.kind message c.args.granted.now none)

pub returns-in-Some : goal.returns-in-Some
returns-in-Some c =
    let m = c.args.module.now in
    let plan = c.args.plan.now in
    let command = c.in-Some.command in
    c.finish_cached.ensures
    ∙ ap (λ (old : List ℕ). old ++ answer m (plan_row command) (plan_text command) c.args.granted.now)
    (c.put.ensures ∙ ap (λ (old : List ℕ). old ++ c.cut-parts.result.header.now) c.clear.ensures ∙ c.cut-parts.ensures.header)
    ∙ sym (command_answer_is m plan.kind plan.message.now c.args.granted.now command (subst (IsCommandOf m plan.kind plan.message.now) c.in-Some.is c.requires.plan.command))
