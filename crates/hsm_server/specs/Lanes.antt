-- A lane as contracts see it, and what a run leaves of it.
use Rattle.std.specs.Prelude.{◌≡◌, ◌⊎◌, ℕ, ◌+◌, ◌-◌, ◌^◌, ◌<◌, ◌≤◌, ◌==◌, min, max, Bool, true, false, not, IsTrue, IsFalse, if◌then◌else◌, List, [], ◌++◌, length, map, flat_map, count_by, sum_by, slice_get, slice_index_or, take, All, Option, Some}
use Rattle.std.specs.List.{AllZip}
use Rattle.atomic_table.specs.Seated.{TableId}
use Rattle.hsm_auth.specs.declared.entry.Entry.{Entry}
use Rattle.hsm_desk.specs.Passes.{PassView, Makes}
use Rattle.hsm_io.specs.Connections.{Doorway, Taken, silent}
use Rattle.hsm_io.specs.Gates.{GateCall}
use Rattle.hsm_io.specs.Outside.{HasCause}
use Rattle.hsm_lmk.specs.Cache.{Kept}
use Rattle.hsm_lmk.specs.Caches.{capacity_of, kept_in}
use Rattle.hsm_lmk.specs.declared.kept.KeyCache.{KeyCache}
use Rattle.hsm_rows.specs.declared.settings.Module.{Module}
use Rattle.hsm_auth.specs.declared.activity.Place.{Place}
use Rattle.hsm_auth.specs.declared.activity.Place.TheVariants.{Host, Console}
use Rattle.hsm_session.specs.declared.serving.ConnEnd.{ConnEnd}
use Rattle.hsm_session.specs.declared.serving.ConnEnd.TheVariants.{Clean, Cut, Short, ReadFault, WriteFault}
use Rattle.hsm_session.specs.declared.serving.Report.{Report}
use Rattle.hsm_session.specs.Connections.{AreCallsFor, IsEntryFor, AskClock, AuthoriseNothing, Keeps, Reports, Talks, kept_after}
use Rattle.hsm_answers.specs.Messages.{least_for}
use Rattle.hsm_server.specs.declared.lane.Lane.{Lane}
use Rattle.hsm_server.specs.declared.lane.LaneEnd.{LaneEnd}

-- A lane: its number, how many connections it serves at most, the least length of its messages, its pass, the moment that
-- its clock gave last and those to come, the calls that its gate got, the opened keys that it keeps, what its door tells,
-- how often the door failed, how many connections that the door took back had failed, whether one is out, the reports, and
-- whether the run ended by a failure of the door.
pub record LaneState : Type 0 where
  pub number : ℕ
  pub accept : ℕ
  pub least : ℕ
  pub pass : PassView
  pub last : ℕ
  pub moments : Option (List ℕ)
  pub calls : Option (List GateCall)
  pub cache : KeyCache
  pub doorway : Option Doorway
  pub faults : ℕ
  pub broken : ℕ
  pub is_out : Bool
  pub reports : List Report
  pub door_fault : Bool

-- a lane, by what its door, its clock and its gate tell
abbrev pub lane_state : {D C G : Type 0} → (D → Option Doorway) → (D → ℕ) → (D → ℕ) → (D → Bool) → (C → ℕ) → (C → Option (List ℕ)) → (G → Option (List GateCall)) → Lane D C G → LaneState
lane_state doorway faults broken is_out last to_come calls lane = record {
  number = lane.tools.lane;
  accept = lane.accept;
  least = lane.tools.frames.least;
  pass = lane.tools.pass;
  last = last lane.tools.clock;
  moments = to_come lane.tools.clock;
  calls = calls lane.tools.gate;
  cache = lane.tools.cache;
  doorway = doorway lane.door;
  faults = faults lane.door;
  broken = broken lane.door;
  is_out = is_out lane.door;
  reports = lane.reports.items;
  door_fault = lane.door_fault;
}

-- the lane of number 0 is the console's, every other is a host's
abbrev pub place_of : ℕ → Place
place_of number = if number == 0 then Console else Host

-- what a cache keeps before a key was opened
abbrev pub nothing_kept : Kept
nothing_kept = record { entries = []; hits = 0 }

-- The least length is that of the lane's side, its pass is of the desk, it will keep 64 opened keys and keeps none yet, no
-- connection is out, and the lane was not served before.
pub record IsReady (m : Module) (desk : TableId) (lane : LaneState) : Type 0 where
  pub least : lane.least ≡ least_for m (place_of lane.number)
  pub of_desk : lane.pass.desk ≡ desk
  pub capacity : capacity_of lane.cache ≡ 64
  pub no_key : kept_in lane.cache ≡ nothing_kept
  pub none_out : lane.is_out ≡ false
  pub no_report : lane.reports ≡ []
  pub no_fault : lane.door_fault ≡ false

-- one connection: the messages that were answered, the entries that the pass made for them, and the report
pub record Served : Type 0 where
  pub messages : List (List ℕ)
  pub entries : List (ℕ × Entry)
  pub report : Report

-- the messages of all these connections, in their order
abbrev pub all_messages : List Served → List (List ℕ)
all_messages connections = flat_map (λ served. served.messages) connections

-- the entries of all these connections, in their order
abbrev pub all_entries : List Served → List (ℕ × Entry)
all_entries connections = flat_map (λ served. served.entries) connections

-- the reports of all these connections, in their order
abbrev pub all_reports : List Served → List Report
all_reports connections = map (λ served. served.report) connections

-- The calls of a gate for all these connections of the lane of this number: those for the messages of each, counted from 0,
-- one connection after another.
pub record AreAllCalls (number : ℕ) (connections : List Served) (calls : List GateCall) : Type 0 where
  pub of_each : List (List GateCall)
  pub each : AllZip (λ served own. AreCallsFor number (length served.entries) own) connections of_each
  pub joined : calls ≡ flat_map (λ own. own) of_each

-- how often a key was found by the end of connection j, that one included, by a cache of this capacity that kept this before the first of them
abbrev pub hits_by : Module → Place → ℕ → Kept → List Served → ℕ → ℕ
hits_by m kind capacity kept connections j = (kept_after m kind capacity kept (all_messages (take (j + 1) connections))).hits

-- each of the reports counts how often a key was found by the end of its connection
abbrev pub CountsHits : Module → Place → ℕ → Kept → List Served → Type 0
CountsHits m kind capacity kept connections =
    (j : ℕ) (served : Served) → slice_get connections j ≡ Some served → served.report.hits ≡ hits_by m kind capacity kept connections j

-- Each message has its entry, and the report counts the entries.
pub record IsServed (m : Module) (kind : Place) (served : Served) : Type 0 where
  pub each : AllZip (IsEntryFor m kind) served.messages served.entries
  pub reported : Reports served.report served.entries

-- whether a connection ended by a failed read or write
abbrev pub is_fault : ConnEnd → Bool
is_fault Clean = false
is_fault Cut = false
is_fault (Short n) = false
is_fault ReadFault = true
is_fault WriteFault = true

-- how many messages the reports count together
abbrev pub message_count : List Report → ℕ
message_count reports = sum_by (λ report. report.messages) reports

-- how many of the reports name a failed read or write
abbrev pub fault_count : List Report → ℕ
fault_count reports = count_by (λ report. is_fault report.ended) reports

-- a count that rose so often, up to its last value
abbrev pub risen : ℕ → ℕ → ℕ
risen count times = max count (min (count + times) (2 ^ 64 - 1))

-- the bytes of a connection that was taken back: those that were read, and those that were left
abbrev pub bytes_of : Taken → List ℕ
bytes_of taken = taken.traffic.was_read ++ taken.traffic.left

-- The connection that was taken back talked as its report says, and it had failed exactly where the report names a fault.
pub record IsToldBy (m : Module) (kind : Place) (served : Served) (taken : Taken) : Type 0 where
  pub talks : Talks m kind (silent (bytes_of taken)) taken.traffic served.messages served.entries served.report.ended
  pub failed : is_fault served.report.ended ≡ not (taken.faults == 0)

-- The connections served are the first of those that were to come, in their order, and they were appended to those taken
-- back. The rest are still to come.
pub record TakesConnections (m : Module) (kind : Place) (before after : Doorway) (connections : List Served) : Type 0 where
  pub ended : List Taken
  pub taken : after.taken ≡ before.taken ++ ended
  pub came : before.to_come ≡ map bytes_of ended ++ after.to_come
  pub each : AllZip (IsToldBy m kind) connections ended

-- A lane served these connections, one after another. Its pass made just their entries, for each of which the clock was
-- asked once, and the gate was called once before and once after; a host's authorise nothing. It keeps the keys that all their messages
-- opened, from one connection to the next. The door counts a failed connection for each report that names a fault.
pub record ServesAll (m : Module) (before after : LaneState) (connections : List Served) : Type 0 where
  pub number : after.number ≡ before.number
  pub accept : after.accept ≡ before.accept
  pub least : after.least ≡ before.least
  pub reports : after.reports ≡ before.reports ++ all_reports connections
  pub counted : message_count (all_reports connections) ≡ length (all_entries connections)
  pub made : Makes before.pass after.pass (all_entries connections)
  pub each : All (IsServed m (place_of before.number)) connections
  pub clock : AskClock before.last after.last before.moments after.moments (all_entries connections)
  pub gate : (calls : List GateCall) → before.calls ≡ Some calls →
      (more : List GateCall) × AreAllCalls before.number connections more × (after.calls ≡ Some (calls ++ more))
  pub hosts : place_of before.number ≡ Host → AuthoriseNothing (all_entries connections)
  pub keeps : Keeps m (place_of before.number) before.cache after.cache (all_messages connections)
  pub hits : CountsHits m (place_of before.number) (capacity_of before.cache) (kept_in before.cache) connections
  pub broken : after.broken ≡ risen before.broken (fault_count (all_reports connections))
  pub told : (d : Doorway) → before.doorway ≡ Some d → (e : Doorway) × (after.doorway ≡ Some e) × TakesConnections m (place_of before.number) d e connections

-- What a run leaves of a lane: it served connections until as many as it accepts were served, or the door ended or failed.
-- The hits of its reports are those of a cache of 64 that kept nothing before the first of them.
-- The door fails only before the last of them. Without a failure, where the door tells, all that were to come were served,
-- or as many as are accepted.
pub record Ran (m : Module) (before after : LaneState) : Type 0 where
  pub connections : List Served
  pub served : ServesAll m before after connections
  pub hits : CountsHits m (place_of before.number) 64 nothing_kept connections
  pub none_out : after.is_out ≡ false
  pub most : length connections ≤ before.accept
  pub early : IsTrue after.door_fault → length connections < before.accept
  pub fault : HasCause before.faults after.faults after.door_fault
  pub complete : IsFalse after.door_fault → (e : Doorway) → after.doorway ≡ Some e → (e.to_come ≡ []) ⊎ (length connections ≡ before.accept)

-- R holds of each lane before and after.
abbrev pub EachLane : {L : Type 0} → (L → L → Type 0) → List L → List L → Type 0
EachLane {L} R before after = (k : ℕ) (d : L) → k < length before → R (slice_index_or before k d) (slice_index_or after k d)

-- what a lane shows at its end: its reports, whether the door failed, what the door tells, how often it failed, and how many
-- connections that it took back had failed
pub record LaneView : Type 0 where
  pub reports : List Report
  pub door_fault : Bool
  pub doorway : Option Doorway
  pub faults : ℕ
  pub broken : ℕ

-- the end of a lane, by what its door tells
abbrev pub lane_view : {D : Type 0} → (D → Option Doorway) → (D → ℕ) → (D → ℕ) → LaneEnd D → LaneView
lane_view doorway faults broken end = record {
  reports = end.reports.items;
  door_fault = end.door_fault;
  doorway = doorway end.door;
  faults = faults end.door;
  broken = broken end.door;
}
