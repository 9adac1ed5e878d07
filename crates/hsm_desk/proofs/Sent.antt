-- A pass may go to another thread, and threads may share a desk.
use denote.Builtin.{unit}
use Rattle.hsm_auth.proofs.ledger.Ledger.TheSendSync.{the_send as ledger_send}
use denote.Param.Send.{IsSend, IsSync, sendable}
use denote.Param.SendFields.{declared_send, declared_sync, as_row_sync}
use Rattle.hsm_auth.specs.contracts.ledger.Ledger.{the_row as ledger_row}
use Rattle.std.specs.contracts.option.Option.{the_row as option_row}
use Rattle.atomic_table.proofs.shared.Seat.TheSendSync.{the_send as seat_send}
use Rattle.atomic_table.specs.contracts.shared.Seat.{the_row as seat_row}
use Rattle.atomic_table.proofs.owned.Table.TheSendSync.{the_field_sync as table_sync}
use Rattle.atomic_table.specs.contracts.owned.Table.{the_field as table_field}
use Rattle.std.proofs.Crossing.{crosses}
use Rattle.std.specs.contracts.sync.Mutex.{the_row as mutex_row, the_field as mutex_field}
use Rattle.std.proofs.Crossing.{Box-send, frees as heap_frees, send as heap_send, sync as heap_sync}
use Rattle.std.specs.contracts.impls.GlobalAllocator.TheImpl.{ghosts}
use Rattle.std.specs.contracts.alloc.Global.{the_row as global_row}
use Rattle.hsm_desk.specs.contracts.plays.Turns.{the_row as turns_row}
use Rattle.hsm_desk.specs.contracts.plays.TurnsTableRuleOptionInSlotViewUnit.TheImpl.{ghosts as turns_ghosts}
use Rattle.hsm_desk.specs.contracts.view.InSlot.{the_row as held_row, the_type as held_type}
use Rattle.hsm_desk.specs.contracts.view.View.{the_row as view_row}
use Rattle.hsm_desk.specs.contracts.desk.Pass.{the_row as pass_row}
use Rattle.hsm_desk.specs.contracts.desk.Pass.TheInside.{the_row as pass_inside}
use Rattle.hsm_desk.specs.contracts.desk.Desk.{the_row as desk_row}
use Rattle.hsm_desk.specs.contracts.desk.Desk.TheInside.{the_row as desk_inside, the_type as desk_type}

pub held_send : IsSend held_row
held_send = declared_send held_type (Box-send ledger_row ledger_send, (search sendable depth 20, (search sendable depth 20, (search sendable depth 20, tt))))

pub slot_send : IsSend (option_row held_row)
slot_send = search (sendable, held_send) depth 20

pub place_send : IsSend (seat_row (option_row held_row) view_row)
place_send = seat_send (option_row held_row) view_row slot_send

pub inside_send : IsSend pass_inside
inside_send = search (sendable, place_send) depth 20

pub pass_send : IsSend pass_row
pass_send = search (sendable, inside_send) depth 20

-- the lock at which whoever waits sleeps
pub queue_sync : IsSync (mutex_row unit)
queue_sync = search (sendable, crosses) depth 20

-- the table at the heap, whose ghost members `search` does not find
pub desk_inside_sync : IsSync desk_inside
desk_inside_sync = declared_sync desk_type (as_row_sync (table_field (option_row held_row) view_row unit turns_row global_row turns_ghosts ghosts) (table_sync (option_row held_row) view_row unit turns_row global_row turns_ghosts ghosts slot_send heap_send heap_sync heap_frees), (as_row_sync (mutex_field unit) queue_sync, tt))

pub desk_sync : IsSync desk_row
desk_sync = search (sendable, desk_inside_sync) depth 20
