use Rattle.std.proofs.Common.{◌≡◌, ◌≤◌, length}
use Rattle.hsm_session.specs.Connections.{scene}
use Rattle.hsm_answers.specs.Kept.{IsCacheOf}
use Rattle.hsm_session.specs.Lanes.{IsWaiting}
use Rattle.hsm_answers.specs.Messages.{least_for}
use Rattle.hsm_session.specs.Serving.{IsServing, holding}
use Rattle.hsm_session.proofs.serving.serve_link.Given as goal

abbrev pub invariant-pieces : goal.invariant-pieces
invariant-pieces g l = record {
  agrees : IsCacheOf l.module l.tools.cache;
  desk : l.tools.pass.desk ≡ l.desk;
  least : l.tools.frames.least ≡ least_for l.module l.kind;
  waits : IsWaiting (least_for l.module l.kind) l.tools.frames.bytes;
  counted : l.count.messages ≤ length l.tools.pass.seen;
  kept : g.K.Link.faults l.link ≡ g.K.Link.faults l.fn.link;
  lane : l.tools.lane ≡ l.fn.tools.lane;
  going : IsServing l.module l.kind l.fn.tools.lane
      (scene l.fn.tools.pass (g.C.Clock.last l.fn.tools.clock) (g.C.Clock.to_come l.fn.tools.clock) (g.G.Gate.calls l.fn.tools.gate) (g.K.Link.traffic l.fn.link) l.fn.tools.cache)
      (scene l.tools.pass (g.C.Clock.last l.tools.clock) (g.C.Clock.to_come l.tools.clock) (g.G.Gate.calls l.tools.gate) (g.K.Link.traffic l.link) l.tools.cache)
      (holding l.tools.frames.bytes l.tools.out.items l.count);
}
