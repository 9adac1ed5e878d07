use Rattle.std.proofs.Common.{◌≡◌, ℕ, ◌++◌, List, take, subst, sym, arith}
use Rattle.std.proofs.lemmas.Grind.{common_steps}
use Rattle.hsm_session.specs.Connections.{Scene, scene}
use Rattle.hsm_session.specs.Lanes.{AreBytes}
use Rattle.hsm_session.specs.Serving.{IsServing, Sends, holding}
use Rattle.hsm_session.proofs.Talking.{at_traffic, going_at, going_reads, going_sends, over_write_fault, steps_after}
use Rattle.hsm_session.proofs.serving.serve_piece.Goals as goal

pub returns-in-Err-clause-steps : goal.returns-in-Err-clause-steps
returns-in-Err-clause-steps g c = λ start silent begun.
    let m = c.args.module.now in
    let lane = c.args.tools.now.lane in
    let sent = going_sends m c.args.kind lane start _ (g.K.Link.traffic c.send.new.link) _ _ _ _ c.in-Err.ensures.front.1 begun in
    over_write_fault c.has_one_reading.ensures.some m c.args.kind lane start _ _ _ _ silent sent

pub returns-in-Bytes-clause-steps : goal.returns-in-Bytes-clause-steps
returns-in-Bytes-clause-steps g c =
    let m = c.args.module.now in
    let kind = c.args.kind in
    let tools = c.args.tools.now in
    let lane = tools.lane in
    let held = tools.frames.bytes in
    let out = tools.out.items in
    let old = scene tools.pass (g.C.Clock.last tools.clock) (g.C.Clock.to_come tools.clock) (g.G.Gate.calls tools.gate) (g.K.Link.traffic c.args.link.now) tools.cache in
    let sent_at = g.K.Link.traffic c.send.new.link in
    let read_at = g.K.Link.traffic c.read.new.self in
    let last = c.answer_messages.new.tools in
    let new = scene last.pass (g.C.Clock.last last.clock) (g.C.Clock.to_come last.clock) (g.G.Gate.calls last.gate) (g.K.Link.traffic c.answer_messages.new.link) last.cache in
    let count = c.args.count.now in
    let piece : List ℕ = take c.in-Bytes.read c.read.new.room in
    let are : AreBytes piece = grind (arith, common_steps, c.tell_bytes.ensures) in
    let fed : c.feed.new.self.bytes ≡ held ++ piece = grind (arith, common_steps, c.feed.ensures.held, c.feed.ensures.count, c.in-Bytes.ensures.bytes) in
    let told : Sends old.traffic sent_at out c.send.new.out.items = subst (λ (rest : List ℕ). Sends old.traffic sent_at out rest) (sym c.in-Ok.ensures.clear) c.in-Ok.ensures.ok in
    let before : (start : Scene) → IsServing m kind lane start old (holding held out count)
    → IsServing m kind lane start (at_traffic old read_at) (holding c.feed.new.self.bytes c.send.new.out.items count) = λ start begun.
    going_at m kind lane start (at_traffic old read_at) (held ++ piece) c.feed.new.self.bytes c.send.new.out.items count (sym fed)
    (going_reads m kind lane start (at_traffic old sent_at) read_at held c.send.new.out.items piece count are c.in-Bytes.ensures.bytes.2
    (going_sends m kind lane start old sent_at held out c.send.new.out.items count told begun)) in
    steps_after m kind lane old (at_traffic old read_at) new (holding held out count) (holding c.feed.new.self.bytes c.send.new.out.items count)
    (holding last.frames.bytes last.out.items c.answer_messages.new.count) c.answer_messages.result before c.answer_messages.ensures.steps
