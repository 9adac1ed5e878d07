-- The host lanes of a script: what each stream holds, and what a line makes of them.
use Rattle.std.specs.Prelude.{◌≡◌, All, ℕ, ◌+◌, ◌^◌, ◌<◌, ◌≤◌, List, [], ◌∷◌, ◌++◌, length, flat_map, sum_by, count_by, map, slice_get, Option, Some, None, MatchOption}
use Rattle.std.specs.List.{AllByRecursion}
use Rattle.hsm_frame.specs.Frames.{Frames, frame, IsMessage, IsShort, IsTail, StreamEnd, Whole, Part, Short}
use Rattle.hsm_frame.specs.Calls.{Held, IsNotYet}
use Rattle.hsm_auth.specs.declared.entry.Entry.{Entry}
use Rattle.hsm_auth.specs.declared.ledger.Ledger.{Ledger}
use Rattle.hsm_auth.specs.History.{StandsFor}
use Rattle.hsm_io.specs.Texts.{Appends}
use Rattle.hsm_rows.specs.declared.settings.Module.{Module}
use Rattle.hsm_session.specs.declared.lane.Drained.{Drained}
use Rattle.hsm_session.specs.declared.lane.ScriptLane.{ScriptLane}
use Rattle.hsm_session.specs.declared.run.Run.{Run}
use Rattle.hsm_answers.specs.Messages.{least_length}
use Rattle.hsm_session.specs.Scripts.{Said, Nothing, Moment, Piece}
use Rattle.hsm_session.specs.Scripts as said
use Rattle.hsm_session.specs.Booking.{IsBooked, BooksAll, BooksFront, BooksSome, entries_of}
use Rattle.hsm_session.specs.declared.script.ScriptEnd.{ScriptEnd}
use Rattle.hsm_session.specs.Runs.{IsRunOfLine, end_lines, got, is_cut, is_short, last_line, moment_at, piece_text}

-- how a stream ends, of which these bytes are held, or which a short frame closed
abbrev pub stream_end : Option ℕ → List ℕ → StreamEnd
stream_end (Some n) held = Short n
stream_end None [] = Whole
stream_end None (byte ∷ bytes) = Part

-- how the lane's stream ends
abbrev pub lane_end : ScriptLane → StreamEnd
lane_end lane = stream_end lane.short lane.frames.bytes

-- neither a message nor a short frame stands in front, and there is room for a byte
pub record IsWaiting (least : ℕ) (held : List ℕ) : Type 0 where
  pub no_message : IsNotYet least held
  pub room : length held < 65537

-- Answering the messages held: they are taken and booked at the moment, and their answers are printed.
pub record Drains (m : Module) (lane moment : ℕ) (old new : Held) (was is : Ledger) (before after : List ℕ → Type 0) (drained : Drained) : Type 0 where
  pub messages : List (List ℕ)
  pub split : old.bytes ≡ flat_map frame messages ++ new.bytes
  pub each : AllByRecursion (IsMessage old.least) messages
  pub least : new.least ≡ old.least
  pub booked : BooksAll m lane moment messages was is before after
  pub count : drained.answered ≡ length messages
  pub spent : drained.answered + length new.bytes ≤ length old.bytes
  pub ends : MatchOption drained.short (IsWaiting old.least new.bytes) (λ n. IsShort old.least n new.bytes)

-- The lane stands behind these bytes: they are these messages, which were answered, and a tail, which an open lane holds.
pub record IsBehind (lane : ScriptLane) (fed : List ℕ) (messages : List (List ℕ)) : Type 0 where
  pub tail : List ℕ
  pub whole : fed ≡ flat_map frame messages ++ tail
  pub each : AllByRecursion (IsMessage lane.frames.least) messages
  pub ends : IsTail lane.frames.least (lane_end lane) tail
  pub held : lane.short ≡ None → tail ≡ lane.frames.bytes
  pub room : length lane.frames.bytes < 65537

-- What a piece does to a lane, whatever came before it: its messages are booked at the moment and answered.
pub record FeedsPiece (m : Module) (moment : ℕ) (old new : ScriptLane) (piece : List ℕ) (answered : ℕ) (was is : Ledger) (before after : List ℕ → Type 0) : Type 0 where
  pub number : new.number ≡ old.number
  pub least : new.frames.least ≡ old.frames.least
  pub spent : answered + length new.frames.bytes ≤ length old.frames.bytes + length piece
  pub answers : (fed : List ℕ) (messages : List (List ℕ)) → IsBehind old fed messages
      → (more : List (List ℕ)) × IsBehind new (fed ++ piece) (messages ++ more) × (answered ≡ length more)
      × ((h : List Entry) → StandsFor was h
      → IsBooked h (entries_of m moment h more) (piece_text m old.number moment h (lane_end old) more (lane_end new)) is before after)

-- Answering the messages held, until a write failed: some of them were booked at the moment, from the front, and a part from
-- the front of their answers was printed.
pub record StopsDraining (m : Module) (lane moment : ℕ) (old : Held) (was is : Ledger) (before after : List ℕ → Type 0) : Type 0 where
  pub messages : List (List ℕ)
  pub left : List ℕ
  pub split : old.bytes ≡ flat_map frame messages ++ left
  pub each : AllByRecursion (IsMessage old.least) messages
  pub booked : BooksSome m lane moment messages was is before after

-- each of these is a byte
abbrev pub AreBytes : List ℕ → Type 0
AreBytes bytes = All (λ b. b < 2 ^ 8) bytes

-- What a piece does to a lane, whatever came before it, where a write failed: of its entries and its text a part from the front was booked and written.
abbrev pub StopsPiece : Module → ℕ → ScriptLane → List ℕ → Ledger → Ledger → (List ℕ → Type 0) → (List ℕ → Type 0) → Type 0
StopsPiece m moment old piece was is before after =
    (fed : List ℕ) (messages : List (List ℕ)) → AreBytes (fed ++ piece) → IsBehind old fed messages
    → (more : List (List ℕ)) × (end : StreamEnd) × Frames old.frames.least (fed ++ piece) (messages ++ more) end
    × ((h : List Entry) → StandsFor was h → BooksFront h (entries_of m moment h more) (piece_text m old.number moment h (lane_end old) more end) is before after)

-- The lane has this number and the module's least length, and stands behind these bytes.
pub record IsLaneAt (m : Module) (place : ℕ) (fed : List ℕ) (lane : ScriptLane) : Type 0 where
  pub number : lane.number ≡ place
  pub least : lane.frames.least ≡ least_length m
  pub messages : List (List ℕ)
  pub behind : IsBehind lane fed messages

-- The run stands behind these lines: each lane behind its pieces, numbered from 1, and the moment is the last that was set.
pub record IsAt (m : Module) (run : Run) (earlier : List Said) : Type 0 where
  pub count : length run.lanes.items ≡ m.hosts
  pub lanes : (i : ℕ) (lane : ScriptLane) → slice_get run.lanes.items i ≡ Some lane → IsLaneAt m (i + 1) (got (i + 1) earlier) lane
  pub moment : run.moment ≡ moment_at earlier

-- the bytes that the lanes hold
abbrev pub all_held : List ScriptLane → ℕ
all_held lanes = sum_by (λ (lane : ScriptLane). length lane.frames.bytes) lanes

-- a bound on the entries that a line can bring, and on the bytes that it leaves held
abbrev pub weight : Said → ℕ
weight Nothing = 0
weight (Moment moment) = 0
weight (Piece lane bytes) = length bytes
weight (said.Console text) = 1

-- a line that a module with so many host lanes reads: what its numbers and its text are within
abbrev pub IsLine : ℕ → Said → Type 0
IsLine hosts Nothing = Unit {0}
IsLine hosts (Moment moment) = moment ≤ 2 ^ 40
IsLine hosts (Piece lane bytes) = (1 ≤ lane) × (lane ≤ hosts) × AreBytes bytes
IsLine hosts (said.Console text) = (1 ≤ length text) × (length text ≤ 1000)

-- What a line does to a run, whatever the lines before it were.
pub record TakesLine (m : Module) (old new : Run) (line : Said) (was is : Ledger) (before after : List ℕ → Type 0) : Type 0 where
  pub spent : new.entries + all_held new.lanes.items ≤ old.entries + all_held old.lanes.items + weight line
  pub answers : (earlier : List Said) → IsAt m old earlier
      → IsAt m new (earlier ++ line ∷ []) × ((h : List Entry) → StandsFor was h
      → (more : List Entry) × (text : List ℕ) × IsRunOfLine m h earlier line more text × IsBooked h more text is before after × (new.entries ≡ old.entries + length more))

-- each lane got bytes
abbrev pub BringBytes : List Said → Type 0
BringBytes lines = (lane : ℕ) → AreBytes (got lane lines)

-- What a line does to a run, whatever the lines before it were, where a write failed: of its entries and its text a part from the front was booked and written.
abbrev pub StopsLine : Module → Run → Said → Ledger → Ledger → (List ℕ → Type 0) → (List ℕ → Type 0) → Type 0
StopsLine m old line was is before after =
    (earlier : List Said) → BringBytes (earlier ++ line ∷ []) → IsAt m old earlier → (h : List Entry) → StandsFor was h
    → (more : List Entry) × (text : List ℕ) × IsRunOfLine m h earlier line more text × BooksFront h more text is before after

-- what is printed when the lines are over
abbrev pub run_end : Run → List ℕ
run_end run = end_lines 1 (map lane_end run.lanes.items) ++ last_line run.entries

-- The text at the end, and the counts.
pub record Ends (run : Run) (over : ScriptEnd) (before after : List ℕ → Type 0) : Type 0 where
  pub printed : Appends before after (run_end run)
  pub entries : over.entries ≡ run.entries
  pub cut : over.cut ≡ count_by is_cut (map lane_end run.lanes.items)
  pub short : over.short ≡ count_by is_short (map lane_end run.lanes.items)
