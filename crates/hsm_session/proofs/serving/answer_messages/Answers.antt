use Rattle.std.proofs.Common.{◌≡◌, ◌∙◌, ℕ, subst, sym}
use Rattle.hsm_frame.specs.Frames.{IsShort}
use Rattle.hsm_session.specs.declared.serving.ConnEnd.{ConnEnd}
use Rattle.hsm_session.specs.Connections.{scene}
use Rattle.hsm_answers.specs.Messages.{least_for}
use Rattle.hsm_session.specs.Serving.{EndsServing, IsServing, holding}
use Rattle.hsm_session.proofs.Talking.{at_traffic, going_sends, over_short, over_write_fault}
use Rattle.hsm_session.proofs.serving.answer_messages.Goals as goal

pub returns-in-Ok-clause-steps : goal.returns-in-Ok-clause-steps
returns-in-Ok-clause-steps g c = λ start silent begun.
    let m = c.args.module.now in
    let kind = c.args.kind in
    let lane = c.args.tools.now.lane in
    let tools = c.messages.tools in
    let new = c.answer_front.new.tools in
    let count = c.answer_front.new.count in
    let old = scene tools.pass (g.C.Clock.last tools.clock) (g.C.Clock.to_come tools.clock) (g.G.Gate.calls tools.gate) (g.K.Link.traffic c.messages.link) tools.cache in
    let now = scene new.pass (g.C.Clock.last new.clock) (g.C.Clock.to_come new.clock) (g.G.Gate.calls new.gate) (g.K.Link.traffic c.answer_front.new.link) new.cache in
    let last = g.K.Link.traffic c.send.new.link in
    let begun_at = subst (λ (n : ℕ). IsServing m kind n start old (holding tools.frames.bytes tools.out.items c.messages.count)) (sym c.messages.invariant.lane) (c.messages.invariant.going start begun) in
    let answered = subst (λ (n : ℕ). IsServing m kind n start now (holding new.frames.bytes new.out.items count)) c.messages.invariant.lane (c.in-Ok-Short.ensures.answers.came.going start begun_at) in
    let least : tools.frames.least ≡ least_for m kind = c.messages.invariant.least ∙ c.requires.least in
    let short = rw c.in-Ok-Short.field-0-is at c.in-Ok-Short.ensures.answers.came.behind in
    let sent = going_sends m kind lane start now last new.frames.bytes _ _ count c.in-Ok.ensures.ok answered in
    subst (λ (ended : ConnEnd). EndsServing m kind lane start (at_traffic now last) count ended) (sym c.end_short.ensures)
    (over_short m kind lane start _ _ _ c.in-Ok-Short.length (subst (λ (n : ℕ). IsShort n c.in-Ok-Short.length new.frames.bytes) least short) silent sent)

pub returns-in-Err-send-clause-steps : goal.returns-in-Err-send-clause-steps
returns-in-Err-send-clause-steps g c = λ start silent begun.
    let m = c.args.module.now in
    let kind = c.args.kind in
    let lane = c.args.tools.now.lane in
    let tools = c.messages.tools in
    let new = c.answer_front.new.tools in
    let count = c.answer_front.new.count in
    let old = scene tools.pass (g.C.Clock.last tools.clock) (g.C.Clock.to_come tools.clock) (g.G.Gate.calls tools.gate) (g.K.Link.traffic c.messages.link) tools.cache in
    let now = scene new.pass (g.C.Clock.last new.clock) (g.C.Clock.to_come new.clock) (g.G.Gate.calls new.gate) (g.K.Link.traffic c.answer_front.new.link) new.cache in
    let last = g.K.Link.traffic c.send.new.link in
    let begun_at = subst (λ (n : ℕ). IsServing m kind n start old (holding tools.frames.bytes tools.out.items c.messages.count)) (sym c.messages.invariant.lane) (c.messages.invariant.going start begun) in
    let answered = subst (λ (n : ℕ). IsServing m kind n start now (holding new.frames.bytes new.out.items count)) c.messages.invariant.lane (c.in-Ok-Short.ensures.answers.came.going start begun_at) in
    let sent = going_sends m kind lane start now last _ _ _ _ c.in-Err-send.ensures.front.1 answered in
    over_write_fault c.has_one_reading.ensures.some m kind lane start _ _ _ _ silent sent
