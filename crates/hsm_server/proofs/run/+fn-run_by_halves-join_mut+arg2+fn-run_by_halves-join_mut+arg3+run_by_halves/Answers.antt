use Rattle.std.proofs.Common.{rules, ◌≡◌, ◌++◌, length}
use denote.Param.Send.{IsSync, sendable}
use Rattle.std.proofs.Crossing.{crosses}
use Rattle.hsm_desk.specs.contracts.desk.Desk.{the_row as desk_row}
use Rattle.hsm_desk.proofs.Sent.{desk_sync}
use Rattle.hsm_server.proofs.Sent.{module_sync}
use Rattle.hsm_server.proofs.Halves.{each_of_halves}
use Rattle.hsm_rows.specs.contracts.settings.Module.{the_row as module_row}
use Rattle.hsm_server.specs.Lanes.{EachLane}
use Rattle.hsm_server.proofs.run.+fn-run_by_halves-join_mut+arg2+fn-run_by_halves-join_mut+arg3+run_by_halves.Goals as goal

pub join_mut-requires-send-F : goal.join_mut-requires-send-F
join_mut-requires-send-F g t c κs within =
    let d : IsSync desk_row = desk_sync in let m : IsSync module_row = module_sync in search (crosses, sendable) depth 20

pub returns : goal.returns
returns g t c =
    let done = g.T.Work.done c.args.module.now in
    let front = c.split_at_mut-left.result.0.now in
    let back = c.split_at_mut-left.result.1.now in
    let left : EachLane done front c.left-1.given.0 = search rules in
    let right : EachLane done back c.right-1.given.0 = search rules in
    let whole : front ++ back ≡ c.args.works.now = search rules in
    let long : length c.left-1.given.0 ≡ length front = search rules in
    rw (← whole) (each_of_halves done front back c.left-1.given.0 c.right-1.given.0 long left right)
