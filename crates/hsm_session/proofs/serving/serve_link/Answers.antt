use Rattle.std.proofs.Common.{◌≡◌, ◌∙◌, ℕ, [], Option, None, ap, refl, subst, sym, arith}
use Rattle.hsm_frame.specs.Calls.{Held}
use Rattle.hsm_session.specs.declared.serving.ConnEnd.{ConnEnd}
use Rattle.hsm_session.specs.declared.serving.Count.{Count}
use Rattle.hsm_session.specs.declared.serving.Report.{Report}
use Rattle.hsm_session.specs.Connections.{Serves, scene}
use Rattle.hsm_answers.specs.Messages.{least_for}
use Rattle.hsm_session.specs.Serving.{StepCause, Steps, holding, report_of}
use Rattle.hsm_session.proofs.Talking.{starts_at, waits_at_start}
use Rattle.hsm_session.proofs.serving.serve_link.Goals as goal

pub pieces-init : goal.pieces-init
pieces-init g c =
    let m = c.args.module.now in
    let tools = c.args.tools.now in
    let none : c.reset.new.self.bytes ≡ [] = ap (λ (h : Held). h.bytes) c.reset.ensures in
    record {
      agrees = c.requires.agrees;
      desk = c.requires.desk;
      least = ap (λ (h : Held). h.least) c.reset.ensures ∙ c.requires.least;
      waits = waits_at_start (least_for m c.args.kind) c.reset.new.self.bytes none;
      counted = let none : c.new-count.result.messages ≡ 0 = ap (λ (count : Count). count.messages) c.new-count.ensures in omega (arith, none);
      kept = refl;
      lane = refl;
      going = starts_at m c.args.kind tools.lane
          (scene tools.pass (g.C.Clock.last tools.clock) (g.C.Clock.to_come tools.clock) (g.G.Gate.calls tools.gate) (g.K.Link.traffic c.args.link.now) tools.cache)
          c.reset.new.self.bytes c.clear.new.self.items c.new-count.result none c.clear.ensures c.new-count.ensures c.facts.ensures.sound;
    }

pub pieces-preserved : goal.pieces-preserved
pieces-preserved g c =
    let m = c.args.module.now in
    let kind = c.args.kind in
    let old = c.pieces.tools in
    let new = c.serve_piece.new.tools in
    let earlier = scene old.pass (g.C.Clock.last old.clock) (g.C.Clock.to_come old.clock) (g.G.Gate.calls old.gate) (g.K.Link.traffic c.pieces.link) old.cache in
    let now = scene new.pass (g.C.Clock.last new.clock) (g.C.Clock.to_come new.clock) (g.G.Gate.calls new.gate) (g.K.Link.traffic c.serve_piece.new.link) new.cache in
    let held = holding old.frames.bytes old.out.items c.pieces.count in
    let left = holding new.frames.bytes new.out.items c.serve_piece.new.count in
    let steps : Steps m kind c.args.tools.now.lane earlier now held left None =
    subst (λ (lane : ℕ). Steps m kind lane earlier now held left None) c.pieces.invariant.lane
    (subst (λ (ended : Option ConnEnd). Steps m kind old.lane earlier now held left ended) c.in_default.is c.serve_piece.ensures.steps) in
    let kept : g.K.Link.faults c.serve_piece.new.link ≡ g.K.Link.faults c.pieces.link =
    subst (λ (ended : Option ConnEnd). StepCause (g.K.Link.faults c.pieces.link) (g.K.Link.faults c.serve_piece.new.link) (g.K.Link.last_was_read c.serve_piece.new.link) ended)
    c.in_default.is c.serve_piece.ensures.cause in
    record {
      agrees = c.serve_piece.ensures.agrees;
      desk = c.serve_piece.ensures.desk ∙ c.pieces.invariant.desk;
      least = c.serve_piece.ensures.frames ∙ c.pieces.invariant.least;
      waits = steps.0;
      counted = c.serve_piece.ensures.counted;
      kept = kept ∙ c.pieces.invariant.kept;
      lane = c.serve_piece.ensures.lane ∙ c.pieces.invariant.lane;
      going = steps.1 _ c.pieces.invariant.going;
    }

pub returns-in-Some-serve_piece-clause-serves : goal.returns-in-Some-serve_piece-clause-serves
returns-in-Some-serve_piece-clause-serves g c =
    let start = c.args.tools.now in
    let end = c.serve_piece.new.tools in
    let end_count = c.serve_piece.new.count in
    let steps = rw c.pieces.invariant.lane at c.in-Some-serve_piece.ensures.steps in
    subst (λ (report : Report). Serves c.args.module.now c.args.kind start.lane
    (scene start.pass (g.C.Clock.last start.clock) (g.C.Clock.to_come start.clock) (g.G.Gate.calls start.gate) (g.K.Link.traffic c.args.link.now) start.cache)
    (scene end.pass (g.C.Clock.last end.clock) (g.C.Clock.to_come end.clock) (g.G.Gate.calls end.gate) (g.K.Link.traffic c.serve_piece.new.link) end.cache) report)
    (sym (c.report.ensures ∙ ap (λ (hits : ℕ). report_of end_count c.in-Some-serve_piece.ended hits) c.hits.ensures.value)) (steps _ c.requires.silent c.pieces.invariant.going)
