-- What a run of a script prints, and what it books.
use Rattle.std.specs.Prelude.{◌+◌, ◌≡◌, ◌==◌, ℕ, Bool, true, false, List, [], ◌∷◌, ◌++◌, length, flat_map, count_by, slice_get, Some, if◌then◌else◌, codes, decimal, Result, Ok, Err}
use Rattle.hsm_auth.specs.declared.entry.Entry.{Entry}
use Rattle.hsm_auth.specs.declared.ledger.Ledger.{Ledger}
use Rattle.hsm_auth.specs.History.{IsLegal, StandsFor}
use Rattle.hsm_auth.specs.declared.activity.Place.TheVariants as place
use Rattle.hsm_frame.specs.Frames.{StreamEnd, Whole, Part, Short, Frames}
use Rattle.hsm_io.specs.Outside.{Rose}
use Rattle.hsm_io.specs.Texts.{Appends, AppendsFront, Stays}
use Rattle.hsm_rows.specs.declared.settings.Module.{Module}
use Rattle.hsm_session.specs.declared.script.ScriptEnd.{ScriptEnd}
use Rattle.hsm_session.specs.declared.script.ScriptFault.{ScriptFault}
use Rattle.hsm_session.specs.declared.script.ScriptFault.TheVariants.{Line, Memory, Out}
use Rattle.hsm_answers.specs.Messages.{least_length}
use Rattle.hsm_session.specs.Scripts.{Said, Nothing, Moment, Piece, Console}
use Rattle.hsm_session.specs.Booking.{answer_lines, console_line, entries_of, entry_of, lane_words, reply_of}

-- the bytes that a line brings to a lane
abbrev pub brought : ℕ → Said → List ℕ
brought lane Nothing = []
brought lane (Moment moment) = []
brought lane (Piece to bytes) = if to == lane then bytes else []
brought lane (Console text) = []

-- the bytes that a lane got by these lines: those of all its pieces, one after another
abbrev pub got : ℕ → List Said → List ℕ
got lane lines = flat_map (brought lane) lines

-- the moment after these lines, where it was this one before them
abbrev pub moment_after : ℕ → List Said → ℕ
moment_after before [] = before
moment_after before (Nothing ∷ lines) = moment_after before lines
moment_after before (Moment moment ∷ lines) = moment_after moment lines
moment_after before (Piece lane bytes ∷ lines) = moment_after before lines
moment_after before (Console text ∷ lines) = moment_after before lines

-- the moment after the lines of a script up to here: the last that was set, and 0 before
abbrev pub moment_at : List Said → ℕ
moment_at earlier = moment_after 0 earlier

-- a line for a frame whose length n is below the least length
unfoldable pub short_line : ℕ → ℕ → List ℕ
short_line lane n = lane_words lane ++ codes "short " ++ decimal n ++ 10 ∷ []

-- a line for a piece that came after such a frame
unfoldable pub closed_line : ℕ → List ℕ
closed_line lane = lane_words lane ++ codes "closed\n"

-- a line for a lane that holds a part of a frame at the end
unfoldable pub cut_line : ℕ → List ℕ
cut_line lane = lane_words lane ++ codes "cut\n"

-- the last line, with the number of entries
unfoldable pub last_line : ℕ → List ℕ
last_line entries = codes "END " ++ decimal entries ++ 10 ∷ []

-- what follows the answers to the last messages of a piece
abbrev pub after_answers : ℕ → StreamEnd → List ℕ
after_answers lane Whole = []
after_answers lane Part = []
after_answers lane (Short n) = short_line lane n

-- What is printed for a piece, by the lane and the moment, the history before it, how the lane's stream ended before it,
-- the messages that it made whole, and how the stream ends with it.
abbrev pub piece_text : Module → ℕ → ℕ → List Entry → StreamEnd → List (List ℕ) → StreamEnd → List ℕ
piece_text m lane moment h Whole messages after = answer_lines m lane moment h messages ++ after_answers lane after
piece_text m lane moment h Part messages after = answer_lines m lane moment h messages ++ after_answers lane after
piece_text m lane moment h (Short n) messages after = closed_line lane

-- The entries that a line books after the history h and the lines before it, and what is printed for it.
-- A piece answers the messages of all bytes that its lane got up to it that were not there before it, each at its own entry,
-- in their order. A console text is one message.
abbrev pub IsRunOfLine : Module → List Entry → List Said → Said → List Entry → List ℕ → Type 0
IsRunOfLine m h earlier Nothing more text = (more ≡ []) × (text ≡ [])
IsRunOfLine m h earlier (Moment moment) more text = (more ≡ []) × (text ≡ [])
IsRunOfLine m h earlier (Piece lane bytes) more text =
    (messages : List (List ℕ)) × (before : StreamEnd) × (new : List (List ℕ)) × (after : StreamEnd)
    × Frames (least_length m) (got lane earlier) messages before
    × Frames (least_length m) (got lane (earlier ++ Piece lane bytes ∷ [])) (messages ++ new) after
    × (more ≡ entries_of m (moment_at earlier) h new)
    × (text ≡ piece_text m lane (moment_at earlier) h before new after)
IsRunOfLine m h earlier (Console message) more text =
    (more ≡ entry_of m place.Console (moment_at earlier) h message ∷ [])
    × (text ≡ console_line (reply_of m place.Console (moment_at earlier) h message))

-- What is printed for the later lines, after the history h and the lines before them, and the history then.
abbrev pub IsRunOfLines : Module → List Entry → List Said → List Said → List Entry → List ℕ → Type 0
IsRunOfLines m h earlier [] last text = (last ≡ h) × (text ≡ [])
IsRunOfLines m h earlier (line ∷ later) last text =
    (more : List Entry) × (first : List ℕ) × (rest : List ℕ)
    × IsRunOfLine m h earlier line more first × (text ≡ first ++ rest) × IsRunOfLines m (h ++ more) (earlier ++ line ∷ []) later last rest

-- How the stream of each host lane ends, by the bytes that it got. Lanes are numbered from 1.
pub record AreEnds (m : Module) (lines : List Said) (ends : List StreamEnd) : Type 0 where
  pub lanes : length ends ≡ m.hosts
  pub each : (i : ℕ) (end : StreamEnd) → slice_get ends i ≡ Some end → (messages : List (List ℕ)) × Frames (least_length m) (got (i + 1) lines) messages end

-- whether a stream ends within a frame
abbrev pub is_cut : StreamEnd → Bool
is_cut Whole = false
is_cut Part = true
is_cut (Short n) = false

-- whether a frame below the least length closed a stream
abbrev pub is_short : StreamEnd → Bool
is_short Whole = false
is_short Part = false
is_short (Short n) = true

-- the line at the end for a lane whose stream ends so, if there is one
abbrev pub end_line : ℕ → StreamEnd → List ℕ
end_line lane Whole = []
end_line lane Part = cut_line lane
end_line lane (Short n) = []

-- these lines for lanes whose streams end so, of which the first has this number
abbrev pub end_lines : ℕ → List StreamEnd → List ℕ
end_lines lane [] = []
end_lines lane (end ∷ ends) = end_line lane end ++ end_lines (lane + 1) ends

-- The history after a run of these lines that begins with the history h, its output, and its counts.
pub record IsRunOf (m : Module) (h : List Entry) (lines : List Said) (last : List Entry) (text : List ℕ) (over : ScriptEnd) : Type 0 where
  pub answers : List ℕ
  pub ends : List StreamEnd
  pub printed : IsRunOfLines m h [] lines last answers
  pub streams : AreEnds m lines ends
  pub whole : text ≡ answers ++ end_lines 1 ends ++ last_line over.entries
  pub booked : List Entry
  pub begins : last ≡ h ++ booked
  pub entries : over.entries ≡ length booked
  pub cut : over.cut ≡ count_by is_cut ends
  pub short : over.short ≡ count_by is_short ends

-- What a run came to after the history h: one history that begins with it, which is legal where h is, and the text that was written.
pub record IsFinishedRun (m : Module) (h : List Entry) (lines : List Said) (over : ScriptEnd) (ledger : Ledger) (before after : List ℕ → Type 0) : Type 0 where
  pub last : List Entry
  pub text : List ℕ
  pub told : IsRunOf m h lines last text over
  pub stands : StandsFor ledger last
  pub legal : IsLegal h → IsLegal last
  pub printed : Appends before after text

-- What a run that a failed write ended came to after the history h: of the history that the run would have the entries up to
-- some place were booked, and of its output a part from the front was written.
pub record IsStoppedRun (m : Module) (h : List Entry) (lines : List Said) (ledger : Ledger) (before after : List ℕ → Type 0) : Type 0 where
  pub last : List Entry
  pub text : List ℕ
  pub over : ScriptEnd
  pub told : IsRunOf m h lines last text over
  pub booked : List Entry
  pub missing : List Entry
  pub begins : last ≡ (h ++ booked) ++ missing
  pub stands : StandsFor ledger (h ++ booked)
  pub legal : IsLegal h → IsLegal (h ++ booked)
  pub printed : AppendsFront before after text

-- Each answer of a run, where it comes, what was booked and what was written then. Want of memory is free.
abbrev pub RunAnswers : Module → Result (List Said) ℕ → Ledger → Ledger → (List ℕ → Type 0) → (List ℕ → Type 0) → Result ScriptEnd ScriptFault → Type 0
RunAnswers m read old new before after (Ok over) =
    (lines : List Said) × (read ≡ Ok lines) × ((h : List Entry) → StandsFor old h → IsFinishedRun m h lines over new before after)
RunAnswers m read old new before after (Err (Line n)) = (read ≡ Err n) × (new ≡ old) × Stays before after
RunAnswers m read old new before after (Err Memory) = (new ≡ old) × Stays before after
RunAnswers m read old new before after (Err Out) =
    (lines : List Said) × (read ≡ Ok lines) × ((h : List Entry) → StandsFor old h → IsStoppedRun m h lines new before after)

-- `Out` comes only where the sink's count rose.
abbrev pub OutRose : ℕ → ℕ → Result ScriptEnd ScriptFault → Type 0
OutRose before after (Ok over) = Unit {0}
OutRose before after (Err (Line n)) = Unit {0}
OutRose before after (Err Memory) = Unit {0}
OutRose before after (Err Out) = Rose before after
