-- Threads may share a module, and a lane may go to another thread.
use denote.RattleType.{RattleType}
use denote.Param.Send.{IsSend, IsSync, sendable}
use denote.Param.SendFields.{as_row_send, declared_send}
use denote.Struct.Field.{row_field}
use Rattle.std.proofs.Crossing.{crosses}
use Rattle.hsm_frame.proofs.Frames.TheSendSync.{the_send as frames_send}
use Rattle.hsm_text.proofs.reply.Reply.TheSendSync.{the_send as reply_send}
use Rattle.hsm_lmk.proofs.kept.KeyCache.TheSendSync.{the_send as cache_send}
use Rattle.hsm_desk.proofs.desk.Booked.TheSendSync.{the_send as booked_send}
use Rattle.hsm_desk.proofs.Sent.{pass_send}
use Rattle.hsm_session.specs.contracts.serving.Tools.{the_row as tools_row, the_type as tools_type}
use Rattle.hsm_server.specs.contracts.lane.Lane.{the_row as lane_row, the_type as lane_type}
use Rattle.hsm_rows.proofs.settings.Module.TheSendSync.{the_sync}
use Rattle.hsm_rows.specs.contracts.settings.Module.{the_row as module_row}

pub module_sync : IsSync module_row
module_sync = the_sync

tools_send : (c g : RattleType) → IsSend c → IsSend g → IsSend (tools_row c g)
tools_send c g cs gs = declared_send (tools_type c g) (
  pass_send,
  (as_row_send (row_field c) cs, (as_row_send (row_field g) gs, (search (crosses, sendable) depth 20, (frames_send, (reply_send, (search (crosses, sendable) depth 20, (search sendable depth 20, (cache_send, (search (crosses, sendable, booked_send) depth 20, tt))))))))),
)

pub lane_send : (d c g : RattleType) → IsSend d → IsSend c → IsSend g → IsSend (lane_row d c g)
lane_send d c g ds cs gs = declared_send (lane_type d c g) (
  search sendable depth 20,
  (tools_send c g cs gs, (as_row_send (row_field d) ds, (search (crosses, sendable) depth 20, (search sendable depth 20, tt)))),
)
