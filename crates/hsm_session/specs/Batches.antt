-- Messages of one connection that are prepared one after another, booked together, and answered.
use Rattle.std.specs.Prelude.{◌≡◌, ℕ, ◌<◌, ◌≤◌, Bool, false, List, [], ◌∷◌, ◌++◌, length, Option, Some, Result, Ok, Err}
use Rattle.std.specs.List.{AllByRecursion}
use Rattle.hsm_auth.specs.declared.activity.Place.{Place}
use Rattle.hsm_auth.specs.History.{CanAsk, Fits}
use Rattle.hsm_answers.specs.Kept.{Opens, opened_of, IsCacheOf}
use Rattle.hsm_answers.specs.Messages.{message_answer, message_ask, least_for}
use Rattle.hsm_desk.specs.declared.desk.Booked.{Booked}
use Rattle.hsm_frame.specs.Frames.{IsShort, frame}
use Rattle.hsm_io.specs.Connections.{Traffic}
use Rattle.hsm_io.specs.Gates.{GateCall}
use Rattle.hsm_io.specs.Outside.{Rose}
use Rattle.hsm_lmk.specs.declared.kept.KeyCache.{KeyCache}
use Rattle.hsm_rows.specs.declared.settings.Module.{Module}
use Rattle.hsm_session.specs.declared.batch.Behind.{Behind}
use Rattle.hsm_session.specs.declared.batch.Behind.TheVariants.{More, NotYet, Short}
use Rattle.hsm_session.specs.declared.plans.Plan.{Plan}
use Rattle.hsm_session.specs.declared.replies.LinkFailed.{LinkFailed}
use Rattle.hsm_session.specs.declared.serving.ConnEnd.TheVariants.{WriteFault}
use Rattle.hsm_session.specs.declared.serving.Count.{Count}
use Rattle.hsm_session.specs.declared.serving.Tools.{Tools}
use Rattle.hsm_session.specs.Connections.{Scene, scene_of}
use Rattle.hsm_session.specs.Lanes.{IsWaiting}
use Rattle.hsm_session.specs.Plans.{IsPlanOf, plan_ask, plan_kind, plan_message}
use Rattle.hsm_session.specs.Serving.{Holding, IsServing, Steps, holding, one_more}

-- the messages of plans, framed
abbrev pub frames_of : List Plan → List ℕ
frames_of [] = []
frames_of (plan ∷ plans) = frame (plan_message plan) ++ frames_of plans

-- The plan is that of its message, which is one of this side; making it took the one cache to the other.
pub record IsPrepared (m : Module) (kind : Place) (before : KeyCache) (plan : Plan) (after : KeyCache) : Type 0 where
  pub side : plan_kind plan ≡ kind
  pub own : IsPlanOf m plan
  pub ask : plan_ask plan ≡ message_ask m kind (plan_message plan)
  pub may : CanAsk (plan_ask plan)
  pub cache : Opens m before after (opened_of m kind (plan_message plan))

-- the plans were made one after another, and took the one cache to the other
abbrev pub Prepares : Module → Place → KeyCache → List Plan → KeyCache → Type 0
Prepares m kind before [] after = after ≡ before
Prepares m kind before (plan ∷ plans) after = (between : KeyCache) × IsPrepared m kind before plan between × Prepares m kind between plans after

-- each plan is the one of its message
abbrev pub ArePlansOf : Module → List Plan → Type 0
ArePlansOf m plans = AllByRecursion (IsPlanOf m) plans

-- for each plan something was booked, whose answer is one to the plan's ask
abbrev pub AreBookedFor : List Plan → List Booked → Type 0
AreBookedFor [] booked = Unit {0}
AreBookedFor (plan ∷ plans) [] = ⊥
AreBookedFor (plan ∷ plans) (b ∷ booked) = Fits (plan_ask plan) b.granted × AreBookedFor plans booked

-- the framed answers to the messages of the plans, for each of which something was booked
abbrev pub answers_of : Module → List Plan → List Booked → List ℕ
answers_of m [] booked = []
answers_of m (plan ∷ plans) [] = []
answers_of m (plan ∷ plans) (b ∷ booked) = frame (message_answer m (plan_kind plan) (plan_message plan) b.granted) ++ answers_of m plans booked

-- the count with one more entry for each that was booked, in their order
abbrev pub counted_all : Count → List Booked → Count
counted_all count [] = count
counted_all count (b ∷ booked) = counted_all (one_more count b.place) booked

-- What is left of these bytes behind the messages that were prepared: fewer bytes, with more to be looked at; bytes that wait for more; or two that name a length below the least.
abbrev pub StandsBehind : ℕ → List ℕ → List ℕ → Behind → Type 0
StandsBehind least held left More = length left < length held
StandsBehind least held left NotYet = IsWaiting least left
StandsBehind least held left (Short n) = IsShort least n left

-- What a lane shows and holds at one time while it serves a connection: its scene, what it holds of the connection, the least
-- length of a message, the number of the lane, and of the link the count of faults and whether the last failed call was a read.
pub record Stand : Type 0 where
  pub scene : Scene
  pub held : Holding
  pub least : ℕ
  pub lane : ℕ
  pub faults : ℕ
  pub last_was_read : Bool

-- the same, by what the clock, the gate and the link tell
abbrev pub stand_of : {C G K : Type 0} → (C → ℕ) → (C → Option (List ℕ)) → (G → Option (List GateCall)) → (K → Option Traffic) → (K → ℕ) → (K → Bool) → Tools C G → K → Count → Stand
stand_of last to_come calls traffic faults last_was_read tools link count = record {
  scene = scene_of last to_come calls tools (traffic link);
  held = holding tools.frames.bytes tools.out.items count;
  least = tools.frames.least;
  lane = tools.lane;
  faults = faults link;
  last_was_read = last_was_read link;
}

-- The lane can answer messages of this side: its cache agrees with the module's set, its frames have the side's least length,
-- and no more messages are counted than the pass has seen entries.
pub record CanAnswer (m : Module) (kind : Place) (s : Stand) : Type 0 where
  pub agrees : IsCacheOf m s.scene.cache
  pub least : s.least ≡ least_for m kind
  pub counted : s.held.count.messages ≤ length s.scene.pass.seen

-- The connection goes on, with this behind the messages that were answered, and no call failed.
pub record GoesOn (m : Module) (kind : Place) (before after : Stand) (found : Behind) : Type 0 where
  pub going : (start : Scene) → IsServing m kind before.lane start before.scene before.held → IsServing m kind before.lane start after.scene after.held
  pub behind : StandsBehind before.least before.held.bytes after.held.bytes found
  pub kept : after.faults ≡ before.faults

-- A write failed, which ends the connection.
pub record EndsByWrite (m : Module) (kind : Place) (before after : Stand) : Type 0 where
  pub ends : Steps m kind before.lane before.scene after.scene before.held after.held (Some WriteFault)
  pub rose : Rose before.faults after.faults
  pub last : after.last_was_read ≡ false

abbrev pub GoesOnOrEnds : Module → Place → Stand → Stand → Result Behind LinkFailed → Type 0
GoesOnOrEnds m kind before after (Ok found) = GoesOn m kind before after found
GoesOnOrEnds m kind before after (Err failed) = EndsByWrite m kind before after

-- What answering the messages at the front of what is held did. Afterwards the lane can answer again, at the same desk.
pub record AnswersFront (m : Module) (kind : Place) (before after : Stand) (result : Result Behind LinkFailed) : Type 0 where
  pub again : CanAnswer m kind after
  pub desk : after.scene.pass.desk ≡ before.scene.pass.desk
  pub least : after.least ≡ before.least
  pub lane : after.lane ≡ before.lane
  pub came : GoesOnOrEnds m kind before after result
