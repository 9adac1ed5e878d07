use Rattle.std.proofs.Common.{List, ℕ, ap, ◌∙◌}
use Rattle.hsm_answers.specs.Messages.{message_answer}
use Rattle.hsm_auth.specs.declared.activity.Place.{Place}
use Rattle.hsm_session.specs.Plans.{plan_message}
use Rattle.hsm_session.proofs.BookingLaws.{answered}
use Rattle.hsm_session.proofs.lane.Buffers.answer.Goals as goal

pub returns-clause-answered : goal.returns-clause-answered
returns-clause-answered g c =
    let m = c.args.module.now in
    let granted = c.step-granted.result in
    let plan = c.prepare_cached-plan.result in
    answered m c.args.kind c.args.moment c.args.message.now c.finish_cached.new.reply c.ask.result granted c.args.ledger.now c.step-granted.new.self
    (c.ask.ensures ∙ c.prepare_cached-plan.ensures.ask) c.step-granted.ensures.answer c.step-granted.ensures.stands c.step-granted.ensures.legal
    (c.finish_cached.ensures ∙ (ap (λ (kind : Place). message_answer m kind (plan_message plan) granted) c.prepare_cached-plan.ensures.kind
    ∙ ap (λ (message : List ℕ). message_answer m c.args.kind message granted) c.prepare_cached-plan.ensures.message))
