use denote.Param.Send.{IsSend, IsSync, sendable, given_sync}
use Rattle.hsm_desk.specs.contracts.desk.Pass.{the_row as pass_row}
use Rattle.hsm_desk.specs.contracts.desk.Desk.{the_row as desk_row}
use Rattle.hsm_desk.proofs.Sent.{pass_send, desk_sync}
use Rattle.std.proofs.Crossing.{crosses}
use Rattle.test_desk.proofs.desks.watched.Goals as goal

pub join-left-requires-send-F : goal.join-left-requires-send-F
join-left-requires-send-F g c κs within =
    let p : IsSend pass_row = pass_send in let d : IsSync desk_row = desk_sync in let r : IsSync g.row.R = given_sync 0 g.row.R c.type_bounds.sync-R in search (crosses, sendable) depth 20

pub join-left-requires-send-A : goal.join-left-requires-send-A
join-left-requires-send-A g c κs within = search (sendable, pass_send) depth 20
