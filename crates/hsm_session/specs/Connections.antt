-- One connection: the messages that came over it, the entries that a pass made for them, and what was written.
use Rattle.std.specs.Prelude.{◌≡◌, ◌⊎◌, ◌≤◌, ℕ, Bool, true, false, List, [], ◌∷◌, ◌++◌, All, length, flat_map, slice_get, sum, Option, Some, None}
use Rattle.std.specs.List.{AllZip}
use Rattle.hsm_auth.specs.declared.entry.Ask.{Ask}
use Rattle.hsm_auth.specs.declared.entry.Ask.TheVariants.{Use, Authorise, Cancel, CancelAll, Look, Recent}
use Rattle.hsm_auth.specs.declared.entry.Entry.{Entry}
use Rattle.hsm_answers.specs.Kept.{opened_of}
use Rattle.hsm_answers.specs.Messages.{message_ask, message_answer, least_for}
use Rattle.hsm_desk.specs.Passes.{PassView, Makes}
use Rattle.hsm_frame.specs.Frames.{Frames, frame, StreamEnd, Whole, Part}
use Rattle.hsm_frame.specs.Frames as stream
use Rattle.hsm_io.specs.Connections.{Traffic}
use Rattle.hsm_io.specs.Gates.{GateCall, batch_calls}
use Rattle.hsm_io.specs.Moments.{tick, after_calls}
use Rattle.hsm_io.specs.Outside.{Rose}
use Rattle.hsm_lmk.specs.Cache.{Kept, kept_all}
use Rattle.hsm_lmk.specs.Caches.{capacity_of, kept_in}
use Rattle.hsm_lmk.specs.declared.kept.KeyCache.{KeyCache}
use Rattle.hsm_rows.specs.declared.settings.Module.{Module}
use Rattle.hsm_auth.specs.declared.activity.Place.{Place}
use Rattle.hsm_auth.specs.declared.activity.Place.TheVariants.{Host}
use Rattle.hsm_session.specs.declared.serving.ConnEnd.{ConnEnd}
use Rattle.hsm_session.specs.declared.serving.ConnEnd.TheVariants.{Clean, Cut, Short, ReadFault, WriteFault}
use Rattle.hsm_session.specs.declared.serving.Report.{Report}
use Rattle.hsm_session.specs.declared.serving.Tools.{Tools}

-- What a lane and its connection show at one time: the pass, the moment that the clock gave last, where told the moments to
-- come, the calls that the gate got and what passed over the link, and the opened keys that are kept.
pub record Scene : Type 0 where
  pub pass : PassView
  pub last : ℕ
  pub moments : Option (List ℕ)
  pub calls : Option (List GateCall)
  pub traffic : Option Traffic
  pub cache : KeyCache

abbrev pub scene : PassView → ℕ → Option (List ℕ) → Option (List GateCall) → Option Traffic → KeyCache → Scene
scene pass last moments calls traffic cache = record { pass = pass; last = last; moments = moments; calls = calls; traffic = traffic; cache = cache }

-- what a lane with these tools and its connection show, by what its clock and its gate tell
abbrev pub scene_of : {C G : Type 0} → (C → ℕ) → (C → Option (List ℕ)) → (G → Option (List GateCall)) → Tools C G → Option Traffic → Scene
scene_of last to_come calls tools traffic = scene tools.pass (last tools.clock) (to_come tools.clock) (calls tools.gate) traffic tools.cache

-- the entry is that of the message: it has its ask
abbrev pub IsEntryFor : Module → Place → List ℕ → ℕ × Entry → Type 0
IsEntryFor m side message placed = placed.1.ask ≡ message_ask m side message

-- the framed answers of the messages, each at its own entry
abbrev pub framed_answers : Module → Place → List (List ℕ) → List (ℕ × Entry) → List ℕ
framed_answers m side [] entries = []
framed_answers m side (message ∷ messages) [] = []
framed_answers m side (message ∷ messages) (placed ∷ entries) =
    frame (message_answer m side message placed.1.granted) ++ framed_answers m side messages entries

-- whether an ask is one for an authorisation
abbrev pub asks_authorisation : Ask → Bool
asks_authorisation (Use needs words) = false
asks_authorisation (Authorise activity minutes) = true
asks_authorisation (Cancel activity) = false
asks_authorisation CancelAll = false
asks_authorisation Look = false
asks_authorisation Recent = false

-- none of the entries asks for an authorisation
abbrev pub AuthoriseNothing : List (ℕ × Entry) → Type 0
AuthoriseNothing entries = (i : ℕ) (placed : ℕ × Entry) → slice_get entries i ≡ Some placed → asks_authorisation placed.1.ask ≡ false

-- each of the entries has the moment that the clock was to give at its call
abbrev pub HaveMoments : List ℕ → List (ℕ × Entry) → Type 0
HaveMoments moments entries = (i : ℕ) (placed : ℕ × Entry) → slice_get entries i ≡ Some placed → placed.1.moment ≡ tick moments i

-- the moment of the last of the entries, and where there is none this moment
abbrev pub last_moment : ℕ → List (ℕ × Entry) → ℕ
last_moment moment [] = moment
last_moment moment (placed ∷ entries) = last_moment placed.1.moment entries

-- Each entry asked the clock once, in their order, and nothing else did.
pub record AskClock (last_before last_after : ℕ) (before after : Option (List ℕ)) (entries : List (ℕ × Entry)) : Type 0 where
  pub last : last_after ≡ last_moment last_before entries
  pub told : (moments : List ℕ) → before ≡ Some moments → HaveMoments moments entries × (after ≡ Some (after_calls (length entries) moments))

-- The calls of a gate for so many messages of a lane, counted from 0: just one before each message and just one after it. The
-- messages were taken in batches of these sizes, at least 1 and at most 16: first the calls before those of a batch, in their
-- order, then the calls after them, in their order, and then those of the next batch.
pub record AreCallsFor (lane count : ℕ) (calls : List GateCall) : Type 0 where
  pub sizes : List ℕ
  pub within : All (λ size. (1 ≤ size) × (size ≤ 16)) sizes
  pub total : sum sizes ≡ count
  pub ordered : calls ≡ batch_calls lane 0 sizes

-- Where told, the gate got just the calls for as many messages as these entries.
abbrev pub AskGate : ℕ → Option (List GateCall) → Option (List GateCall) → List (ℕ × Entry) → Type 0
AskGate lane before after entries = (calls : List GateCall) → before ≡ Some calls →
    (more : List GateCall) × AreCallsFor lane (length entries) more × (after ≡ Some (calls ++ more))

-- The bytes read are the messages framed, and end as the connection did. After a failed read they may end within a frame,
-- and after a failed write more messages may follow.
abbrev pub Hears : ℕ → List ℕ → List (List ℕ) → ConnEnd → Type 0
Hears least heard messages Clean = Frames least heard messages Whole
Hears least heard messages Cut = Frames least heard messages Part
Hears least heard messages (Short n) = Frames least heard messages (stream.Short n)
Hears least heard messages ReadFault = Frames least heard messages Whole ⊎ Frames least heard messages Part
Hears least heard messages WriteFault = (later : List (List ℕ)) × (end : StreamEnd) × Frames least heard (messages ++ later) end

-- All of the answers were written, and where a write failed a part from their front.
abbrev pub WritesAnswers : List ℕ → List ℕ → ConnEnd → Type 0
WritesAnswers said answers Clean = said ≡ answers
WritesAnswers said answers Cut = said ≡ answers
WritesAnswers said answers (Short n) = said ≡ answers
WritesAnswers said answers ReadFault = said ≡ answers
WritesAnswers said answers WriteFault = (rest : List ℕ) × (answers ≡ said ++ rest)

-- a connection that was read to its end has nothing left to read
abbrev pub Leaves : List ℕ → ConnEnd → Type 0
Leaves left Clean = left ≡ []
Leaves left Cut = left ≡ []
Leaves left (Short n) = Unit {0}
Leaves left ReadFault = Unit {0}
Leaves left WriteFault = Unit {0}

-- What passed over a connection, of which nothing was read or written before: the messages of the bytes read, with their
-- answers at these entries.
pub record Talks (m : Module) (kind : Place) (before after : Traffic) (messages : List (List ℕ)) (entries : List (ℕ × Entry)) (end : ConnEnd) : Type 0 where
  pub bytes : before.left ≡ after.was_read ++ after.left
  pub hears : Hears (least_for m kind) after.was_read messages end
  pub says : WritesAnswers after.written (framed_answers m kind messages entries) end
  pub leaves : Leaves after.left end

-- the place of the first of the entries
abbrev pub first_place : List (ℕ × Entry) → Option ℕ
first_place [] = None
first_place (placed ∷ entries) = Some placed.0

-- the place of the last of the entries, and where there is none this one
abbrev pub last_place : Option ℕ → List (ℕ × Entry) → Option ℕ
last_place place [] = place
last_place place (placed ∷ entries) = last_place (Some placed.0) entries

-- the report counts these entries, and names the places of the first and the last
pub record Reports (report : Report) (entries : List (ℕ × Entry)) : Type 0 where
  pub messages : report.messages ≡ length entries
  pub first : report.first ≡ first_place entries
  pub last : report.last ≡ last_place None entries

-- what a cache of this capacity keeps after these messages: the keys that each opened, one message after another
abbrev pub kept_after : Module → Place → ℕ → Kept → List (List ℕ) → Kept
kept_after m kind capacity kept messages = kept_all capacity kept (flat_map (opened_of m kind) messages)

-- The cache keeps afterwards what it keeps after these messages, and its capacity stays.
pub record Keeps (m : Module) (kind : Place) (before after : KeyCache) (messages : List (List ℕ)) : Type 0 where
  pub capacity : capacity_of after ≡ capacity_of before
  pub kept : kept_in after ≡ kept_after m kind (capacity_of before) (kept_in before) messages

-- What serving a connection of the lane of this number did. The pass made one entry for each message, in their order, at the
-- clock's moments, and the gate was called before and after each; where the link tells what passed over it, these are the
-- messages of the bytes read, and what was written are their answers at these entries. A host's messages authorise nothing.
pub record Serves (m : Module) (kind : Place) (lane : ℕ) (before after : Scene) (report : Report) : Type 0 where
  pub messages : List (List ℕ)
  pub entries : List (ℕ × Entry)
  pub made : Makes before.pass after.pass entries
  pub each : AllZip (IsEntryFor m kind) messages entries
  pub clock : AskClock before.last after.last before.moments after.moments entries
  pub gate : AskGate lane before.calls after.calls entries
  pub reported : Reports report entries
  pub keeps : Keeps m kind before.cache after.cache messages
  pub hits : report.hits ≡ (kept_in after.cache).hits
  pub hosts : kind ≡ Host → AuthoriseNothing entries
  pub told : (s : Traffic) → before.traffic ≡ Some s → (t : Traffic) × (after.traffic ≡ Some t) × Talks m kind s t messages entries report.ended

-- A connection ends with a fault only where the link's count rose, or stood at its last value, and by the kind of the call
-- that failed last. With any other end the count stayed: no call failed, unless it stood at that value.
abbrev pub EndCause : ℕ → ℕ → Bool → ConnEnd → Type 0
EndCause before after last_was_read Clean = after ≡ before
EndCause before after last_was_read Cut = after ≡ before
EndCause before after last_was_read (Short n) = after ≡ before
EndCause before after last_was_read ReadFault = Rose before after × (last_was_read ≡ true)
EndCause before after last_was_read WriteFault = Rose before after × (last_was_read ≡ false)
