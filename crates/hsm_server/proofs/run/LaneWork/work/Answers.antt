use Rattle.std.proofs.Common.{◌∙◌, refl}
use Rattle.hsm_server.proofs.Laning.{far_none, far_more}
use Rattle.hsm_server.proofs.run.LaneWork.work.Goals as goal

pub connections-init : goal.connections-init
connections-init g c = far_none _ _ c.facts.ensures.sound c.requires.none_out c.requires.no_fault c.requires.capacity c.requires.no_key

pub connections-preserved : goal.connections-preserved
connections-preserved g c =
    let given = c.in-Link.ensures in
    let served = c.serve_link-report.ensures in
    far_more _ _ _ _ _ _ _ _ _ _ _ _ _ _ c.connections.invariant c.kind_for-kind.ensures served.serves served.cause given.new.0 given.comes
    c.done.ensures.taken given.broken c.done.ensures.broken served.lane refl served.frames c.in-Ok.ensures.items
    c.done.ensures.out refl (c.done.ensures.faults ∙ given.cause.kept refl) served.agrees
