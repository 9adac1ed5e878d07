use denote.Param.Send.{IsSend, IsSync, sendable, given_sync}
use Rattle.hsm_desk.specs.contracts.desk.Pass.{the_row as pass_row}
use Rattle.hsm_desk.specs.contracts.desk.Desk.{the_row as desk_row}
use Rattle.std.proofs.Crossing.{crosses}
use Rattle.hsm_desk.proofs.Sent.{pass_send, desk_sync}
use Rattle.bench_desk.proofs.desk_load.book_all.Goals as goal

pub for_each_mut-requires-send-T : goal.for_each_mut-requires-send-T
for_each_mut-requires-send-T g c κs within = let p : IsSend pass_row = pass_send in search (crosses, sendable) depth 20

pub for_each_mut-requires-sync-F : goal.for_each_mut-requires-sync-F
for_each_mut-requires-sync-F g c κs within = let d : IsSync desk_row = desk_sync in let r : IsSync g.row.R = given_sync 0 g.row.R c.type_bounds.sync-R in search sendable depth 20
