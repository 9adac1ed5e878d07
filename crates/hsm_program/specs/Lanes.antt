-- The lanes before they are served, and the passes that they book with; no public contract cites these.
use Rattle.std.specs.Prelude.{◌≡◌, ◌≤◌, ◌+◌, ◌*◌, ◌^◌, ◌||◌, ◌⊎◌, nat_lt, nat_le, ◌==◌, if◌then◌else◌, ℕ, false, List, [], ◌∷◌, ◌++◌, length, flat_map, slice_get, take, Option, Some, None}
use Rattle.atomic_table.specs.Seated.{TableId}
use Rattle.hsm_auth.specs.Own.{own}
use Rattle.hsm_desk.specs.Passes.{PassView, Sound, KeepsOwn, kept_pass}
use Rattle.hsm_io.specs.Connections.{Doorway}
use Rattle.hsm_io.specs.Outside.{Rose}
use Rattle.hsm_io.specs.Sides.{DoorSide}
use Rattle.hsm_lmk.specs.Caches.{capacity_of, kept_in}
use Rattle.hsm_rows.specs.declared.settings.Module.{Module}
use Rattle.hsm_server.specs.declared.lane.Lane.{Lane}
use Rattle.hsm_server.specs.declared.lane.LaneEnd.{LaneEnd}
use Rattle.hsm_server.specs.Lanes.{LaneState, nothing_kept, place_of}
use Rattle.hsm_answers.specs.Messages.{least_for}
use Rattle.hsm_program.specs.declared.lanes.LanesFault.{LanesFault}
use Rattle.hsm_program.specs.declared.lanes.LanesFault.TheVariants.{Memory, Door}
use Rattle.hsm_program.specs.Serving.{AsksGatesOf}

-- The step of the pass of this number where there are `count` passes: the span, which is the greatest power of two that is at most `count`, or twice that
-- where the pass was split at this span or comes from such a split.
abbrev pub step_of : ℕ → ℕ → ℕ → ℕ
step_of span count number = if nat_lt (number + span) count || nat_le span number then 2 * span else span

-- the pass of a number before anything was booked
abbrev pub seat : TableId → ℕ → ℕ → ℕ → PassView
seat desk span count number = record { desk = desk; seen = []; kin = (number, step_of span count number) ∷ [] }

-- the span for the lane of this number, where the given one was that for the lane before it: it doubles where the number is twice as much
abbrev pub next_span : ℕ → ℕ → ℕ
next_span span number = if number == 2 * span then number else span

-- a lane after a pass was split from its own
abbrev pub keeps : LaneState → LaneState
keeps lane = record lane { pass = kept_pass lane.pass }

-- the span is a power of two, at most the count and at least half of it
pub record IsSpan (span count : ℕ) : Type 0 where
  pub power : ℕ
  pub is : span ≡ 2 ^ power
  pub least : span ≤ count
  pub most : count ≤ 2 * span

-- what a door tells that was not asked yet, where the bench told the connections to come at its port
abbrev pub IsUnasked : Option (List (List ℕ)) → Option Doorway → Type 0
IsUnasked to_come doorway = (came : List (List ℕ)) → to_come ≡ Some came → doorway ≡ Some (record { to_come = came; taken = [] })

-- A lane of this number that served no connection yet: the connections to come at its door and the moments to come of its clock are those that the bench told.
pub record IsNewLane (m : Module) (accept : ℕ) (moments : Option (List ℕ)) (to_come : Option (List (List ℕ))) (number : ℕ) (pass : PassView) (lane : LaneState) : Type 0 where
  pub numbered : lane.number ≡ number
  pub accepts : lane.accept ≡ accept
  pub least : lane.least ≡ least_for m (place_of number)
  pub seated : lane.pass ≡ pass
  pub clock : lane.moments ≡ moments
  pub capacity : capacity_of lane.cache ≡ 64
  pub no_key : kept_in lane.cache ≡ nothing_kept
  pub doorway : IsUnasked to_come lane.doorway
  pub faults : lane.faults ≡ 0
  pub broken : lane.broken ≡ 0
  pub none_out : lane.is_out ≡ false
  pub no_report : lane.reports ≡ []
  pub no_fault : lane.door_fault ≡ false

-- the lanes of these ports, by number
pub record AreLanes (m : Module) (accept : ℕ) (moments : Option (List ℕ)) (to_come : ℕ → Option (List (List ℕ))) (ports : List ℕ) (desk : TableId) (lanes : List LaneState) : Type 0 where
  pub count : length lanes ≡ length ports
  pub span : ℕ
  pub is_span : IsSpan span (length lanes)
  pub each : (number port : ℕ) (lane : LaneState) → slice_get ports number ≡ Some port → slice_get lanes number ≡ Some lane
      → IsNewLane m accept moments (to_come port) number (seat desk span (length lanes) number) lane

-- the connections to come at each other port are as they were, and so is the count for doors
pub record OthersStay (port : ℕ) (before after : DoorSide) : Type 0 where
  pub connections : (other : ℕ) → (after.connections other ≡ before.connections other) ⊎ (other ≡ port)
  pub faults : after.faults ≡ before.faults

-- the door of this lane's port could not be opened, or memory ran out
abbrev pub IsRefused : ℕ → ℕ → DoorSide → DoorSide → LanesFault → Type 0
IsRefused number port before after Memory = Unit {0}
IsRefused number port before after (Door lane) = (lane ≡ number) × (after.bad_port ≡ port) × Rose before.faults after.faults

-- a gate was asked for this lane, but where its door was refused
abbrev pub AsksGate : ℕ → List ℕ → List ℕ → LanesFault → Type 0
AsksGate number before after Memory = after ≡ before ++ number ∷ []
AsksGate number before after (Door lane) = (lane ≡ number) × (after ≡ before)

-- gates were asked for the lanes from 0 upwards, as far as one whose door was refused
abbrev pub AskGates : List ℕ → List ℕ → LanesFault → Type 0
AskGates before after Memory = (count : ℕ) × AsksGatesOf count before after
AskGates before after (Door lane) = AsksGatesOf lane before after

-- the door of some lane's port could not be opened, after those of the lanes before it, or memory ran out
abbrev pub AreRefused : List ℕ → DoorSide → DoorSide → LanesFault → Type 0
AreRefused ports before after Memory = Unit {0}
AreRefused ports before after (Door lane) = (port : ℕ) × (slice_get ports lane ≡ Some port) × (after.asked ≡ take (lane + 1) ports) × (after.bad_port ≡ port)
    × Rose before.faults after.faults

-- The passes were joined into this one.
pub record AreJoined (passes : List PassView) (pass : PassView) : Type 0 where
  pub kin : pass.kin ≡ flat_map (λ (p : PassView). p.kin) passes
  pub own : (k : ℕ) (p : PassView) → slice_get passes k ≡ Some p → (j : ℕ) (n : ℕ × ℕ) → slice_get p.kin j ≡ Some n → own n.0 pass.seen ≡ own n.0 p.seen
  pub sound : Sound pass

-- a pass was joined into the given one, or stays where there is none
abbrev pub Joins : Option PassView → PassView → PassView → Type 0
Joins None other pass = (pass ≡ other) × Sound other
Joins (Some mine) other pass = (pass.kin ≡ mine.kin ++ other.kin) × KeepsOwn mine pass × KeepsOwn other pass × Sound pass

-- what becomes of a lane
abbrev pub end_of_lane : {D C G : Type 0} → Lane D C G → LaneEnd D
end_of_lane lane = record { door = lane.door; reports = lane.reports; door_fault = lane.door_fault }
