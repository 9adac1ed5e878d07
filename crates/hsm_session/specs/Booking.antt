-- Messages that are booked and answered one after another.
use Rattle.std.specs.Prelude.{◌≡◌, ℕ, List, [], ◌∷◌, ◌++◌, codes, decimal}
use Rattle.hsm_nibbles.specs.Characters.{hex_of_bytes}
use Rattle.hsm_auth.specs.declared.entry.Entry.{Entry}
use Rattle.hsm_auth.specs.declared.ledger.Ledger.{Ledger}
use Rattle.hsm_auth.specs.History.{entry, outcome, IsLegal, StandsFor}
use Rattle.hsm_rows.specs.declared.settings.Module.{Module}
use Rattle.hsm_answers.specs.Messages.{message_ask, message_answer}
use Rattle.hsm_auth.specs.declared.activity.Place.{Place}
use Rattle.hsm_auth.specs.declared.activity.Place.TheVariants.{Host}
use Rattle.hsm_frame.specs.Frames.{frame}
use Rattle.hsm_io.specs.Texts.{Appends, AppendsFront}

-- the entry of a message after a history: number 0, the moment, what the message asks, and what the history answers
abbrev pub entry_of : Module → Place → ℕ → List Entry → List ℕ → Entry
entry_of m side moment h message = entry 0 moment (message_ask m side message) (outcome h moment (message_ask m side message))

-- the entries of a host's messages after a history, one each
abbrev pub entries_of : Module → ℕ → List Entry → List (List ℕ) → List Entry
entries_of m moment h [] = []
entries_of m moment h (message ∷ messages) = entry_of m Host moment h message ∷ entries_of m moment (h ++ entry_of m Host moment h message ∷ []) messages

-- the answer to a message at its entry after a history
abbrev pub reply_of : Module → Place → ℕ → List Entry → List ℕ → List ℕ
reply_of m side moment h message = message_answer m side message (entry_of m side moment h message).granted

-- what each line of a host lane begins with
unfoldable pub lane_words : ℕ → List ℕ
lane_words lane = codes "L" ++ decimal lane ++ codes " "

-- a line for the frame of a reply to a host lane
unfoldable pub reply_line : ℕ → List ℕ → List ℕ
reply_line lane reply = lane_words lane ++ hex_of_bytes (frame reply) ++ 10 ∷ []

-- a line for a reply to the console
unfoldable pub console_line : List ℕ → List ℕ
console_line reply = codes "C " ++ reply ++ 10 ∷ []

-- the lines of the answers to a host lane's messages after a history, each at its entry
abbrev pub answer_lines : Module → ℕ → ℕ → List Entry → List (List ℕ) → List ℕ
answer_lines m lane moment h [] = []
answer_lines m lane moment h (message ∷ messages) =
    reply_line lane (reply_of m Host moment h message) ++ answer_lines m lane moment (h ++ entry_of m Host moment h message ∷ []) messages

-- After the history h these entries were booked, and this text was written.
pub record IsBooked (h more : List Entry) (text : List ℕ) (ledger : Ledger) (before after : List ℕ → Type 0) : Type 0 where
  pub stands : StandsFor ledger (h ++ more)
  pub legal : IsLegal h → IsLegal (h ++ more)
  pub printed : Appends before after text

-- After the history h some of these entries were booked, from the front, and a part from the front of this text was written.
pub record BooksFront (h more : List Entry) (text : List ℕ) (ledger : Ledger) (before after : List ℕ → Type 0) : Type 0 where
  pub booked : List Entry
  pub missing : List Entry
  pub begins : more ≡ booked ++ missing
  pub stands : StandsFor ledger (h ++ booked)
  pub legal : IsLegal h → IsLegal (h ++ booked)
  pub printed : AppendsFront before after text

-- Whatever history the ledger stood for, these messages of a host lane were booked after it, and their answers were printed.
abbrev pub BooksAll : Module → ℕ → ℕ → List (List ℕ) → Ledger → Ledger → (List ℕ → Type 0) → (List ℕ → Type 0) → Type 0
BooksAll m lane moment messages old new before after =
    (h : List Entry) → StandsFor old h → IsBooked h (entries_of m moment h messages) (answer_lines m lane moment h messages) new before after

-- Whatever history the ledger stood for, of these messages of a host lane some were booked after it, from the front,
-- and a part from the front of their answers was printed.
abbrev pub BooksSome : Module → ℕ → ℕ → List (List ℕ) → Ledger → Ledger → (List ℕ → Type 0) → (List ℕ → Type 0) → Type 0
BooksSome m lane moment messages old new before after =
    (h : List Entry) → StandsFor old h → BooksFront h (entries_of m moment h messages) (answer_lines m lane moment h messages) new before after

-- A message was booked after each history that the ledger stood for, and this is its answer there.
pub record IsAnswered (m : Module) (side : Place) (moment : ℕ) (message : List ℕ) (old new : Ledger) (answer : List ℕ) (h : List Entry) : Type 0 where
  pub stands : StandsFor new (h ++ entry_of m side moment h message ∷ [])
  pub legal : IsLegal h → IsLegal (h ++ entry_of m side moment h message ∷ [])
  pub reply : answer ≡ reply_of m side moment h message
