-- Which messages the entries of a run are, and what was granted where one of them shows a clear key or PIN.
use Rattle.std.specs.Prelude.{◌≡◌, ℕ, ◌≤◌, List, [], ◌∷◌, ◌++◌, Contains, take, slice_get, Some}
use Rattle.hsm_auth.specs.declared.activity.Activity.{Activity}
use Rattle.hsm_auth.specs.declared.entry.Entry.{Entry}
use Rattle.hsm_frame.specs.Frames.{Frames, StreamEnd}
use Rattle.hsm_rows.specs.declared.settings.Module.{Module}
use Rattle.hsm_rows.specs.Table.{RowShape}
use Rattle.hsm_rows.specs.Reading.{ReadText}
use Rattle.hsm_answers.specs.Clear.{Authorises, IsGrantedAt}
use Rattle.hsm_auth.specs.declared.activity.Place.{Place}
use Rattle.hsm_auth.specs.declared.activity.Place.TheVariants as place
use Rattle.hsm_session.specs.Booking.{entry_of}
use Rattle.hsm_answers.specs.Messages.{least_length}
use Rattle.hsm_session.specs.Runs.{got, moment_at}
use Rattle.hsm_session.specs.Scripts.{Said, Nothing, Moment, Piece, Console}

-- A line that follows the earlier ones brings this message: a text of the console is one message, and a piece brings the messages of
-- all bytes that its lane got up to it that were not there before it.
abbrev pub Brings : Module → List Said → Said → Place → List ℕ → Type 0
Brings m earlier Nothing side message = ⊥
Brings m earlier (Moment moment) side message = ⊥
Brings m earlier (Piece lane bytes) side message =
    (side ≡ place.Host)
    × ((messages : List (List ℕ)) × (before : StreamEnd) × (new : List (List ℕ)) × (after : StreamEnd)
    × Frames (least_length m) (got lane earlier) messages before
    × Frames (least_length m) (got lane (earlier ++ Piece lane bytes ∷ [])) (messages ++ new) after
    × Contains new message)
Brings m earlier (Console text) side message = (side ≡ place.Console) × (message ≡ text)

-- The message is one of the script: a line brings it, and the moment is the one at that line.
pub record IsSaidBy (m : Module) (lines : List Said) (side : Place) (moment : ℕ) (message : List ℕ) : Type 0 where
  pub earlier : List Said
  pub line : Said
  pub later : List Said
  pub place : lines ≡ earlier ++ line ∷ later
  pub moment_there : moment ≡ moment_at earlier
  pub brings : Brings m earlier line side message

-- the entry at place i of the history is that of the message of this side at the moment, after the entries before it
abbrev pub IsEntryOf : Module → List Entry → ℕ → Place → ℕ → List ℕ → Type 0
IsEntryOf m history i side moment message = slice_get history i ≡ Some (entry_of m side moment (take i history) message)

-- the entry at place i is that of a message of the script
pub record HasMessage (m : Module) (lines : List Said) (history : List Entry) (i : ℕ) : Type 0 where
  pub side : Place
  pub moment : ℕ
  pub message : List ℕ
  pub said : IsSaidBy m lines side moment message
  pub entered : IsEntryOf m history i side moment message

-- the entry at place i is that of a console text of the script, an `A` with both officers' words
pub record IsByOfficers (m : Module) (lines : List Said) (history : List Entry) (i : ℕ) (activity : Activity) (minutes : ℕ) : Type 0 where
  pub of_message : HasMessage m lines history i
  pub words : Authorises m of_message.side of_message.message activity minutes

-- Of an answer that shows a clear key or PIN, at its entry e at place i: the entry needs the activity of the row's mark, is answered `Use`, and a live grant covers that activity.
-- Where an entry of the run gave the grant, that is an officers' `A` of the script; the run's entries follow `before` others.
pub record IsGranted (m : Module) (lines : List Said) (before : ℕ) (history : List Entry) (i : ℕ) (e : Entry) (row : RowShape) (read : ReadText) : Type 0 where
  pub at_entry : IsGrantedAt row read history i e
  pub by_officers : before ≤ at_entry.giver → IsByOfficers m lines history at_entry.giver at_entry.grant.activity at_entry.given.minutes
