use Rattle.std.proofs.Common.{ℕ, ◌-◌, ◌++◌, List, length, take, drop, subst}
use Rattle.std.proofs.lemmas.Result.{on_err_weaker}
use Rattle.hsm_frame.specs.Frames.{frame}
use Rattle.hsm_desk.specs.declared.desk.Booked.{Booked}
use Rattle.hsm_session.specs.declared.plans.Plan.{Plan}
use Rattle.hsm_session.specs.Batches.{answers_of}
use Rattle.hsm_session.specs.Serving.{SendsFront}
use Rattle.hsm_session.proofs.Batching.{answers_first, first_and_more}
use Rattle.hsm_session.proofs.BookingLaws.{for_err}
use Rattle.hsm_session.proofs.Talking.{front_more, front_on}
use Rattle.hsm_session.proofs.batch.+answer_plans.Goals as goal

pub returns-in_err-gather-clause-front : goal.returns-in_err-gather-clause-front
returns-in_err-gather-clause-front g t c =
    let m = c.args.module.now in
    let plans = c.args.plans.now in
    let booked = c.args.booked.now in
    let out = c.args.out.now.items in
    let before = g.K.Link.traffic c.args.link.now in
    let after = g.K.Link.traffic c.gather.new.link in
    let more : List Plan = take (length plans - 1) (drop 1 plans) in
    let others : List Booked = take (length booked - 1) (drop 1 booked) in
    let text = answers_first m plans more c.plan-item.result booked others c.first-item.result c.finish_cached.new.reply c.bytes.result.now
    (first_and_more plans c.plan-item.result c.in-len1-up.len_at_least c.plan-item.is)
    (first_and_more booked c.first-item.result c.in-len1-up-booked.len_at_least c.first-item.is)
    c.finish_cached.ensures c.bytes.ensures.bytes out in
    for_err c.from_residual.result (SendsFront before after (out ++ answers_of m plans booked))
    (subst (λ (said : List ℕ). SendsFront before after said) text
    (front_more before after (out ++ frame c.bytes.result.now) (answers_of m more others) c.in_err-gather.ensures.front))

pub returns-clause-front : goal.returns-clause-front
returns-clause-front g t c =
    let m = c.args.module.now in
    let plans = c.args.plans.now in
    let booked = c.args.booked.now in
    let out = c.args.out.now.items in
    let before = g.K.Link.traffic c.args.link.now in
    let between = g.K.Link.traffic c.gather.new.link in
    let after = g.K.Link.traffic c.answer_plans.new.link in
    let more : List Plan = take (length plans - 1) (drop 1 plans) in
    let others : List Booked = take (length booked - 1) (drop 1 booked) in
    let text = answers_first m plans more c.plan-item.result booked others c.first-item.result c.finish_cached.new.reply c.bytes.result.now
    (first_and_more plans c.plan-item.result c.in-len1-up.len_at_least c.plan-item.is)
    (first_and_more booked c.first-item.result c.in-len1-up-booked.len_at_least c.first-item.is)
    c.finish_cached.ensures c.bytes.ensures.bytes out in
    on_err_weaker c.answer_plans.result
    (λ front. subst (λ (said : List ℕ). SendsFront before after said) text
    (front_on before between after (out ++ frame c.bytes.result.now) c.gather.new.out.items (answers_of m more others) c.in_ok-gather.ensures.ok front))
    c.answer_plans.ensures.front
