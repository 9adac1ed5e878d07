use Rattle.std.proofs.Common.{◌≡◌, ◌≤◌, length}
use Rattle.hsm_session.specs.Connections.{Scene, scene}
use Rattle.hsm_answers.specs.Kept.{IsCacheOf}
use Rattle.hsm_session.specs.Serving.{IsServing, holding}
use Rattle.hsm_session.proofs.serving.answer_messages.Given as goal

abbrev pub invariant-messages : goal.invariant-messages
invariant-messages g l = record {
  agrees : IsCacheOf l.module l.tools.cache;
  desk : l.tools.pass.desk ≡ l.initial.tools.pass.desk;
  least : l.tools.frames.least ≡ l.initial.tools.frames.least;
  counted : l.count.messages ≤ length l.tools.pass.seen;
  kept : g.K.Link.faults l.link ≡ g.K.Link.faults l.initial.link;
  lane : l.tools.lane ≡ l.initial.tools.lane;
  going : (start : Scene)
      → IsServing l.module l.kind l.initial.tools.lane start
      (scene l.initial.tools.pass (g.C.Clock.last l.initial.tools.clock) (g.C.Clock.to_come l.initial.tools.clock) (g.G.Gate.calls l.initial.tools.gate) (g.K.Link.traffic l.initial.link) l.initial.tools.cache)
      (holding l.initial.tools.frames.bytes l.initial.tools.out.items l.initial.count)
      → IsServing l.module l.kind l.initial.tools.lane start
      (scene l.tools.pass (g.C.Clock.last l.tools.clock) (g.C.Clock.to_come l.tools.clock) (g.G.Gate.calls l.tools.gate) (g.K.Link.traffic l.link) l.tools.cache)
      (holding l.tools.frames.bytes l.tools.out.items l.count);
}

abbrev pub decreases-messages : goal.decreases-messages
decreases-messages g l = length l.tools.frames.bytes
