-- A connection while it is served.
use Rattle.std.specs.Prelude.{◌≡◌, ℕ, ◌+◌, Bool, List, [], ◌++◌, length, flat_map, Option, Some, None}
use Rattle.std.specs.List.{AllZip, AllByRecursion}
use Rattle.hsm_auth.specs.declared.entry.Entry.{Entry}
use Rattle.hsm_desk.specs.Passes.{Makes}
use Rattle.hsm_frame.specs.Frames.{IsMessage, frame}
use Rattle.hsm_io.specs.Connections.{Traffic, Exchanges, IsSilent}
use Rattle.hsm_lmk.specs.Caches.{kept_in}
use Rattle.hsm_rows.specs.declared.settings.Module.{Module}
use Rattle.hsm_auth.specs.declared.activity.Place.{Place}
use Rattle.hsm_auth.specs.declared.activity.Place.TheVariants.{Host}
use Rattle.hsm_session.specs.declared.serving.ConnEnd.{ConnEnd}
use Rattle.hsm_session.specs.declared.serving.Count.{Count}
use Rattle.hsm_session.specs.declared.serving.Report.{Report}
use Rattle.hsm_session.specs.Connections.{AskClock, AskGate, AuthoriseNothing, EndCause, IsEntryFor, Keeps, Scene, Serves, first_place, framed_answers, last_place}
use Rattle.hsm_session.specs.Lanes.{AreBytes, IsWaiting}
use Rattle.hsm_answers.specs.Messages.{least_for}

-- A part from the front of the text was written, and this is the rest.
abbrev pub Sends : Option Traffic → Option Traffic → List ℕ → List ℕ → Type 0
Sends before after text rest = (s : Traffic) → before ≡ Some s →
    (t : Traffic) × (after ≡ Some t) × (said : List ℕ) × Exchanges s t [] said × (text ≡ said ++ rest)

-- a part of the text from its front was written
abbrev pub SendsFront : Option Traffic → Option Traffic → List ℕ → Type 0
SendsFront before after text = (rest : List ℕ) × Sends before after text rest

-- the first place stays once there is one
abbrev pub kept_first : Option ℕ → ℕ → Option ℕ
kept_first None place = Some place
kept_first (Some first) place = Some first

-- the count with one more entry, at this place
abbrev pub one_more : Count → ℕ → Count
one_more count place = record { messages = count.messages + 1; first = kept_first count.first place; last = Some place }

-- no entry yet
abbrev pub no_entry : Count
no_entry = record { messages = 0; first = None; last = None }

-- the entries are counted, and the places of the first and the last are kept
pub record Counts (count : Count) (entries : List (ℕ × Entry)) : Type 0 where
  pub messages : count.messages ≡ length entries
  pub first : count.first ≡ first_place entries
  pub last : count.last ≡ last_place None entries

-- what a lane holds of its connection at one time: the bytes that came and were not handed out, the framed replies that were
-- not written yet, and the count of the entries
pub record Holding : Type 0 where
  pub bytes : List ℕ
  pub out : List ℕ
  pub count : Count

abbrev pub holding : List ℕ → List ℕ → Count → Holding
holding bytes out count = record { bytes = bytes; out = out; count = count }

-- What serving did so far on the lane of this number: the messages among the bytes read were booked, and the bytes held
-- follow them; their answers are what was written and what is gathered; the keys that they opened are kept.
pub record IsServing (m : Module) (kind : Place) (lane : ℕ) (start now : Scene) (h : Holding) : Type 0 where
  pub messages : List (List ℕ)
  pub entries : List (ℕ × Entry)
  pub made : Makes start.pass now.pass entries
  pub each : AllZip (IsEntryFor m kind) messages entries
  pub valid : AllByRecursion (IsMessage (least_for m kind)) messages
  pub bytes : AreBytes h.bytes
  pub clock : AskClock start.last now.last start.moments now.moments entries
  pub gate : AskGate lane start.calls now.calls entries
  pub counted : Counts h.count entries
  pub keeps : Keeps m kind start.cache now.cache messages
  pub hosts : kind ≡ Host → AuthoriseNothing entries
  pub told : (s : Traffic) → start.traffic ≡ Some s → (t : Traffic) × (now.traffic ≡ Some t) × (said : List ℕ)
      × Exchanges s t (flat_map frame messages ++ h.bytes) said × (framed_answers m kind messages entries ≡ said ++ h.out)

-- the report of a connection that ended so, with these hits of the cache
abbrev pub report_of : Count → ConnEnd → ℕ → Report
report_of count ended hits = record { ended = ended; messages = count.messages; first = count.first; last = count.last; hits = hits }

-- what serving did in all
abbrev pub EndsServing : Module → Place → ℕ → Scene → Scene → Count → ConnEnd → Type 0
EndsServing m kind lane start now count ended = Serves m kind lane start now (report_of count ended (kept_in now.cache).hits)

-- What a part of the work did to a connection that nothing had ended: it goes on and waits for more bytes, or it ended.
abbrev pub Steps : Module → Place → ℕ → Scene → Scene → Holding → Holding → Option ConnEnd → Type 0
Steps m kind lane old new before after None =
    IsWaiting (least_for m kind) after.bytes × ((start : Scene) → IsServing m kind lane start old before → IsServing m kind lane start new after)
Steps m kind lane old new before after (Some ended) =
    (start : Scene) → IsSilent start.traffic → IsServing m kind lane start old before → EndsServing m kind lane start new after.count ended

-- Why a part of the work ended a connection.
abbrev pub StepCause : ℕ → ℕ → Bool → Option ConnEnd → Type 0
StepCause before after last_was_read None = after ≡ before
StepCause before after last_was_read (Some ended) = EndCause before after last_was_read ended
