use Rattle.hsm_server.specs.Lanes.{lane_state}
use Rattle.hsm_server.proofs.Laning.{SoFar}
use Rattle.hsm_server.proofs.run.LaneWork.work.Given as goal

abbrev pub invariant-connections : goal.invariant-connections
invariant-connections g l =
    let state = lane_state g.D.Door.doorway g.D.Door.faults g.D.Door.broken g.D.Door.is_out g.C.Clock.last g.C.Clock.to_come g.G.Gate.calls in
    SoFar l.module (state l.initial.self) (state l.self) l.counter
