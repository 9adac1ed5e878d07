use denote.Param.Send.{sendable}
use Rattle.hsm_server.proofs.Sent.{lane_send}
use Rattle.hsm_server.proofs.run.run_lanes.Goals as goal

pub run_by_halves-requires-send-T : goal.run_by_halves-requires-send-T
run_by_halves-requires-send-T g c κs within =
    let l = lane_send _ _ _ c.type_bounds.send-D c.type_bounds.send-C c.type_bounds.send-G in search sendable depth 20
