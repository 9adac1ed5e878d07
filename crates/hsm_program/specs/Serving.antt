-- What `serve` comes to.
use Rattle.std.specs.Prelude.{◌≡◌, ◌+◌, ◌⊎◌, ℕ, Bool, true, false, ◌||◌, not, ◌==◌, if◌then◌else◌, List, [], ◌∷◌, ◌++◌, length, map, take, slice_get, Option, Some, None, codes, decimal}
use Rattle.std.specs.List.{AllZip, list_any, range_with_len}
use Rattle.hsm_desk.specs.Passes.{PassView}
use Rattle.hsm_io.specs.Connections.{Doorway, Taken}
use Rattle.hsm_io.specs.Files.{FileSide}
use Rattle.hsm_io.specs.Sides.{SeedSide, DoorSide, Seeded, NotSeeded}
use Rattle.hsm_io.specs.Outside.{HasCause, Rose}
use Rattle.hsm_io.specs.Texts.{Appends, AppendsFront}
use Rattle.hsm_config.specs.declared.configuration.Config.{Config}
use Rattle.hsm_config.specs.declared.configuration.ConfigFault.TheVariants.{NotToml, Rule}
use Rattle.hsm_config.specs.declared.configuration.ConfigFault.TheVariants as fault
use Rattle.hsm_session.specs.declared.serving.ConnEnd.{ConnEnd}
use Rattle.hsm_session.specs.declared.serving.ConnEnd.TheVariants.{Clean, Cut, Short, ReadFault, WriteFault}
use Rattle.hsm_session.specs.declared.serving.Report.{Report}
use Rattle.hsm_server.specs.declared.lane.LaneEnd.{LaneEnd}
use Rattle.hsm_server.specs.Lanes.{LaneView, lane_view, fault_count, is_fault, message_count, risen}
use Rattle.hsm_program.specs.Headline.{Headline, WhereTold}
use Rattle.hsm_program.specs.Runs.{HasStatus}
use Rattle.hsm_config.specs.Configs.{ports_of}
use Rattle.hsm_program.specs.Settings.{HoldsConfig}
use Rattle.hsm_program.specs.Words.{Asked, usage, serve, script, check, explain, make}
use Rattle.hsm_program.specs.declared.outcome.Outcome.{Outcome}
use Rattle.hsm_program.specs.declared.outcome.Outcome.TheVariants.{Served, Usage, FileFault, SeedFault, ListenFault, OutFault, FileLong, ConfigRefused, ScriptRefused, Memory}

-- what the lanes show in the end, by what their doors tell
abbrev pub lane_views : {D : Type 0} → (D → Option Doorway) → (D → ℕ) → (D → ℕ) → List (LaneEnd D) → List LaneView
lane_views doorway faults broken ends = map (lane_view doorway faults broken) ends

-- what holds of the configuration that the words ask to serve
abbrev pub OfServe : Asked → (List ℕ → Type 0) → Type 0
OfServe (usage place) P = Unit {0}
OfServe (serve config) P = P config
OfServe (script config file) P = Unit {0}
OfServe (check config) P = Unit {0}
OfServe (explain row) P = Unit {0}
OfServe (make count seed) P = Unit {0}

-- what holds of each other command
abbrev pub OtherThanServe : Asked → Type 0 → Type 0
OtherThanServe (usage place) P = P
OtherThanServe (serve config) P = Unit {0}
OtherThanServe (script config file) P = P
OtherThanServe (check config) P = P
OtherThanServe (explain row) P = P
OtherThanServe (make count seed) P = P

-- What holds of the configuration that was read from the file of this name; where the bench tells the bytes of the file, it is the one that they are.
pub record WithConfig (files : FileSide) (name : List ℕ) (P : Config → Type 0) : Type 0 where
  pub config : Config
  pub told : (bytes : List ℕ) → files.bytes_of name ≡ Some bytes → HoldsConfig bytes config
  pub holds : P config

-- the report names a failed read or write exactly where the connection had failed
abbrev pub IsNamed : Report → Taken → Type 0
IsNamed report taken = is_fault report.ended ≡ not (taken.faults == 0)

-- A lane has no more faults than its door counts: it counts a failed connection for each report that names a failed read or write, and it failed itself
-- exactly where the lane says so. Where it tells, a report names a fault exactly where the connection had failed.
pub record HasCauses (to_come : Option (List (List ℕ))) (lane : LaneView) : Type 0 where
  pub broken : lane.broken ≡ risen 0 (fault_count lane.reports)
  pub door : HasCause 0 lane.faults lane.door_fault
  pub named : WhereTold to_come lane (λ came door. AllZip IsNamed lane.reports door.taken)

-- Lanes were served under a configuration with the seed that the bench gave last: each port was asked, in their order; the theorem on serving holds; and
-- each fault has its cause.
pub record ServedBy (doors : DoorSide) (moments : Option (List ℕ)) (seeds_after : SeedSide) (doors_after : DoorSide) (lanes : List LaneView) (pass : PassView) (config : Config) : Type 0 where
  pub asked : doors_after.asked ≡ ports_of config
  pub headline : Headline (record { config = config; seed = seeds_after.last_seed; to_come = doors.connections; moments = moments }) lanes pass
  pub causes : (number port : ℕ) (lane : LaneView) → slice_get (ports_of config) number ≡ Some port → slice_get lanes number ≡ Some lane
      → HasCauses (doors.connections port) lane

-- the same under the configuration that was read from the file of this name
abbrev pub HasServed : FileSide → DoorSide → Option (List ℕ) → List ℕ → SeedSide → DoorSide → List LaneView → PassView → Type 0
HasServed files doors moments name seeds_after doors_after lanes pass =
    WithConfig files name (ServedBy doors moments seeds_after doors_after lanes pass)

-- The doors of the lanes before this one were opened, each at its port, and the one of this lane could not be: the count for doors rose.
pub record IsRefusedAt (before after : DoorSide) (lane : ℕ) (config : Config) : Type 0 where
  pub port : ℕ
  pub of_lane : slice_get (ports_of config) lane ≡ Some port
  pub asked : after.asked ≡ take (lane + 1) (ports_of config)
  pub bad : after.bad_port ≡ port
  pub rose : Rose before.faults after.faults

-- the same under the configuration that was read from the file of this name
abbrev pub IsListenFault : FileSide → DoorSide → List ℕ → ℕ → DoorSide → Type 0
IsListenFault files before name lane after = WithConfig files name (IsRefusedAt before after lane)

-- No seed and no door was asked for.
pub record AsksNeither (seeds seeds_after : SeedSide) (doors doors_after : DoorSide) : Type 0 where
  pub no_seed : seeds_after ≡ seeds
  pub no_door : doors_after ≡ doors

-- A call for a seed gave none, and no door was asked for.
pub record AsksNoDoor (seeds seeds_after : SeedSide) (doors doors_after : DoorSide) : Type 0 where
  pub no_seed : NotSeeded seeds seeds_after
  pub no_door : doors_after ≡ doors

-- one seed was given, at the first call for one
abbrev pub HasSeed : SeedSide → SeedSide → Type 0
HasSeed seeds seeds_after = Seeded seeds seeds_after seeds_after.last_seed

-- The seed is asked for after the configuration and before the doors: lanes are served, and a door is refused, only where one was given in this call;
-- with `SeedFault` no door was asked for; where the configuration's file is the cause neither was; and memory may run out before either and after both.
abbrev pub AsksSeedFirst : SeedSide → SeedSide → DoorSide → DoorSide → Outcome → Type 0
AsksSeedFirst seeds seeds_after doors doors_after Served = HasSeed seeds seeds_after
AsksSeedFirst seeds seeds_after doors doors_after OutFault = HasSeed seeds seeds_after
AsksSeedFirst seeds seeds_after doors doors_after (ListenFault lane) = HasSeed seeds seeds_after
AsksSeedFirst seeds seeds_after doors doors_after SeedFault = AsksNoDoor seeds seeds_after doors doors_after
AsksSeedFirst seeds seeds_after doors doors_after FileFault = AsksNeither seeds seeds_after doors doors_after
AsksSeedFirst seeds seeds_after doors doors_after FileLong = AsksNeither seeds seeds_after doors doors_after
AsksSeedFirst seeds seeds_after doors doors_after (ConfigRefused why) = AsksNeither seeds seeds_after doors doors_after
AsksSeedFirst seeds seeds_after doors doors_after (Usage place) = ⊥
AsksSeedFirst seeds seeds_after doors doors_after (ScriptRefused line) = ⊥
AsksSeedFirst seeds seeds_after doors doors_after Memory = AsksNeither seeds seeds_after doors doors_after ⊎ HasSeed seeds seeds_after

-- Gates were asked for the first of the lanes, so many of them, from lane 0 upwards and each once.
abbrev pub AsksGatesOf : ℕ → List ℕ → List ℕ → Type 0
AsksGatesOf count gates gates_after = gates_after ≡ gates ++ range_with_len 0 count

-- A gate was asked for each lane that is served, with its number; where a door is refused for each lane before; and else, but for want of memory, for none.
abbrev pub AsksGates : List LaneView → List ℕ → List ℕ → Outcome → Type 0
AsksGates lanes gates gates_after Served = AsksGatesOf (length lanes) gates gates_after
AsksGates lanes gates gates_after OutFault = AsksGatesOf (length lanes) gates gates_after
AsksGates lanes gates gates_after (ListenFault lane) = AsksGatesOf lane gates gates_after
AsksGates lanes gates gates_after SeedFault = gates_after ≡ gates
AsksGates lanes gates gates_after FileFault = gates_after ≡ gates
AsksGates lanes gates gates_after FileLong = gates_after ≡ gates
AsksGates lanes gates gates_after (ConfigRefused why) = gates_after ≡ gates
AsksGates lanes gates gates_after (Usage place) = ⊥
AsksGates lanes gates gates_after (ScriptRefused line) = ⊥
AsksGates lanes gates gates_after Memory = (count : ℕ) × AsksGatesOf count gates gates_after

-- whether a connection was cut, or ended by a short frame
abbrev pub is_cut : ConnEnd → Bool
is_cut Clean = false
is_cut Cut = true
is_cut (Short n) = true
is_cut ReadFault = false
is_cut WriteFault = false

-- whether a read or write of some connection failed, or the door
abbrev pub has_failed : LaneView → Bool
has_failed lane = lane.door_fault || list_any (λ (report : Report). is_fault report.ended) lane.reports

-- whether some connection was cut or ended by a short frame
abbrev pub has_cut : LaneView → Bool
has_cut lane = list_any (λ (report : Report). is_cut report.ended) lane.reports

-- 7 where a link or a door failed; else 6 where a connection was cut or ended by a short frame; else 0
abbrev pub status_of_lanes : List LaneView → ℕ
status_of_lanes lanes = if list_any has_failed lanes then 7 else if list_any has_cut lanes then 6 else 0

-- the line of a lane: how many connections it served, and how many messages it answered
unfoldable pub lane_line : ℕ → LaneView → List ℕ
lane_line number lane =
    codes "lane " ++ decimal number ++ codes ": " ++ decimal (length lane.reports) ++ codes " connections, " ++ decimal (message_count lane.reports) ++ codes " messages" ++ 10 ∷ []

-- the lines of lanes, of which the first has this number
abbrev pub lane_lines : ℕ → List LaneView → List ℕ
lane_lines number [] = []
lane_lines number (lane ∷ lanes) = lane_line number lane ++ lane_lines (number + 1) lanes

-- The line of each lane is written, and where a write failed a part from the front of these lines. With each other outcome nothing of the lanes is said here.
abbrev pub AnswersServe : List LaneView → (List ℕ → Type 0) → (List ℕ → Type 0) → Outcome → Type 0
AnswersServe lanes before after Served = Appends before after (lane_lines 0 lanes)
AnswersServe lanes before after OutFault = AppendsFront before after (lane_lines 0 lanes)
AnswersServe lanes before after (Usage place) = ⊥
AnswersServe lanes before after FileFault = Unit {0}
AnswersServe lanes before after SeedFault = Unit {0}
AnswersServe lanes before after (ListenFault lane) = Unit {0}
AnswersServe lanes before after FileLong = Unit {0}
AnswersServe lanes before after (ConfigRefused why) = Unit {0}
AnswersServe lanes before after (ScriptRefused line) = ⊥
AnswersServe lanes before after Memory = Unit {0}

-- the outcomes of `serve` with which a pass and lanes are handed back
abbrev pub has_lanes : Outcome → Bool
has_lanes Served = true
has_lanes OutFault = true
has_lanes (Usage place) = false
has_lanes FileFault = false
has_lanes SeedFault = false
has_lanes (ListenFault lane) = false
has_lanes FileLong = false
has_lanes (ConfigRefused why) = false
has_lanes (ScriptRefused line) = false
has_lanes Memory = false

-- a pass and lanes are there, or neither is
abbrev pub IsThere : Bool → Option PassView → List LaneView → Type 0
IsThere true pass lanes = (p : PassView) × (pass ≡ Some p)
IsThere false pass lanes = (pass ≡ None) × (lanes ≡ [])

-- A pass is handed back exactly where `serve` ended with `Served` or `OutFault`, and else no lanes either.
abbrev pub HasLanes : Asked → Outcome → Option PassView → List LaneView → Type 0
HasLanes (usage place) outcome pass lanes = IsThere false pass lanes
HasLanes (serve config) outcome pass lanes = IsThere (has_lanes outcome) pass lanes
HasLanes (script config file) outcome pass lanes = IsThere false pass lanes
HasLanes (check config) outcome pass lanes = IsThere false pass lanes
HasLanes (explain row) outcome pass lanes = IsThere false pass lanes
HasLanes (make count seed) outcome pass lanes = IsThere false pass lanes

-- the status of each outcome of `serve`
abbrev pub IsServeStatus : List LaneView → ℕ → Outcome → Type 0
IsServeStatus lanes status Served = status ≡ status_of_lanes lanes
IsServeStatus lanes status (Usage place) = ⊥
IsServeStatus lanes status FileFault = status ≡ 3
IsServeStatus lanes status SeedFault = status ≡ 3
IsServeStatus lanes status (ListenFault lane) = status ≡ 3
IsServeStatus lanes status OutFault = status ≡ 3
IsServeStatus lanes status FileLong = status ≡ 4
IsServeStatus lanes status (ConfigRefused NotToml) = status ≡ 4
IsServeStatus lanes status (ConfigRefused (Rule n)) = status ≡ 4
IsServeStatus lanes status (ConfigRefused fault.Memory) = ⊥
IsServeStatus lanes status (ScriptRefused line) = ⊥
IsServeStatus lanes status Memory = status ≡ 5

-- the status of each outcome, by the command
abbrev pub IsStatus : Asked → List LaneView → ℕ → Outcome → Type 0
IsStatus (usage place) lanes status outcome = HasStatus status outcome
IsStatus (serve config) lanes status outcome = IsServeStatus lanes status outcome
IsStatus (script config file) lanes status outcome = HasStatus status outcome
IsStatus (check config) lanes status outcome = HasStatus status outcome
IsStatus (explain row) lanes status outcome = HasStatus status outcome
IsStatus (make count seed) lanes status outcome = HasStatus status outcome
