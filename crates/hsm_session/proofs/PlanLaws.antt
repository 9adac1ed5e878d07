-- The row of a message, what it asks and what it is answered.
use Rattle.std.proofs.Common.{◌≡◌, ℕ, ◌+◌, ◌≤◌, Bool, true, false, cond, List, [], ◌∷◌, ◌++◌, length, Option, Some, None, Result, Ok, Err, is_some, if◌then◌else◌, refl, sym, ap, ◌∙◌, arith, length-drop}
use Rattle.std.specs.List.{list_all, list_any}
use Rattle.std.specs.Str.{bytes_eq}
use Rattle.std.specs.Prelude.{IfSome, slice_index}
use Rattle.std.specs.Borrow.{Bor}
use Rattle.std.proofs.lemmas.List.{length-take-le}
use Rattle.hsm_auth.specs.declared.activity.Place.{Place}
use Rattle.hsm_auth.specs.declared.activity.Place.TheVariants.{Host, Console}
use Rattle.hsm_auth.specs.declared.entry.Granted.{Granted}
use Rattle.hsm_lmk.specs.declared.kept.KeyEntry.{KeyEntry}
use Rattle.hsm_rows.specs.declared.row.Code.{Code}
use Rattle.hsm_rows.specs.declared.row.Row.{Row}
use Rattle.hsm_rows.specs.declared.rules.KeyCheck.{KeyCheck}
use Rattle.hsm_rows.specs.declared.rules.KeyCheck.TheVariants.{GivenKey, Target}
use Rattle.hsm_rows.specs.declared.settings.Module.{Module}
use Rattle.hsm_rows.specs.Reading.{ReadText, reading}
use Rattle.hsm_rows.specs.Table.{RowShape, console_rows, host_rows, row_with, rules_of, shape_of}
use Rattle.hsm_rows.proofs.RowLemmas.{all_by}
use Rattle.hsm_answers.specs.Read.{ReadMessage, read_by, message_in}
use Rattle.hsm_answers.specs.Asks.{empty_ask, ask_of}
use Rattle.hsm_answers.specs.Answers.{answer}
use Rattle.hsm_answers.specs.Checks.{is_loaded}
use Rattle.hsm_answers.specs.Keys.{key_fault}
use Rattle.hsm_answers.specs.Kept.{checks_entries, opened_by, opened_in, opened_of, read_entries}
use Rattle.hsm_answers.specs.Messages.{header_of, command_of, text_after, enabled_row, unknown_answer, ask_by, answer_by, message_ask, message_answer, least_for}
use Rattle.hsm_answers.proofs.ClearAnswers.{enabled_among}
use Rattle.hsm_commands.specs.declared.plan.Plan.{Plan as CommandPlan}
use Rattle.hsm_commands.specs.Plans.{IsFollowed, IsPlanOf, plan_row, plan_text}
use Rattle.hsm_session.specs.Plans.{IsCommandOf}

-- a list of two bytes by its bytes
two_bytes : (code : List ℕ) → length code ≡ 2 → slice_index code 0 ∷ slice_index code 1 ∷ [] ≡ code
two_bytes [] long = absurd (omega (arith, long))
two_bytes (first ∷ []) long = absurd (omega (arith, long))
two_bytes (first ∷ second ∷ []) long = refl
two_bytes (first ∷ second ∷ third ∷ more) long = absurd (omega (arith, long))

-- the host row of a code of two bytes, where the module doesn't disable it
pub host_row_is : (m : Module) (code : List ℕ) (found : Option RowShape) → list_any (bytes_eq code) m.disabled.items ≡ false → length code ≡ 2
    → found ≡ row_with (slice_index code 0 ∷ slice_index code 1 ∷ []) host_rows → found ≡ enabled_row m Host code
unfolding enabled_row
host_row_is m code found enabled long is =
    is ∙ ap (λ (bytes : List ℕ). row_with bytes host_rows) (two_bytes code long) ∙ sym (ap (λ (disabled : Bool). if disabled then None else row_with code host_rows) enabled)

pub unknown_ask : (m : Module) (side : Place) (message : List ℕ) → enabled_row m side (command_of m side message) ≡ None → message_ask m side message ≡ empty_ask
unfolding message_ask
unknown_ask m side message none = ap (ask_by m side message) none

pub row_ask_is : (m : Module) (side : Place) (message : List ℕ) (row : RowShape) → enabled_row m side (command_of m side message) ≡ Some row
    → message_ask m side message ≡ ask_of m row (text_after m side message)
unfolding message_ask
row_ask_is m side message row is = ap (ask_by m side message) is

pub unknown_answer_is : (m : Module) (side : Place) (message : List ℕ) (g : Granted) → enabled_row m side (command_of m side message) ≡ None
    → message_answer m side message g ≡ header_of m side message ++ unknown_answer side (command_of m side message)
unfolding message_answer
unknown_answer_is m side message g none = ap (λ (row : Option RowShape). header_of m side message ++ answer_by m side message g row) none

pub row_answer_is : (m : Module) (side : Place) (message : List ℕ) (g : Granted) (row : RowShape) → enabled_row m side (command_of m side message) ≡ Some row
    → message_answer m side message g ≡ header_of m side message ++ answer m row (text_after m side message) g
unfolding message_answer
row_answer_is m side message g row is = ap (λ (r : Option RowShape). header_of m side message ++ answer_by m side message g r) is

-- the row of a code that is the message's
pub row_there : (m : Module) (side : Place) (message code : List ℕ) (row : Option RowShape) → code ≡ command_of m side message → row ≡ enabled_row m side code
    → enabled_row m side (command_of m side message) ≡ row
row_there m side message code row is found = ap (enabled_row m side) (sym is) ∙ sym found

-- what is true of a row that is found
pub followed : (IsRow : RowShape → Type 0) → ((row : RowShape) → IsRow row → IsFollowed row) → (found : Option (Bor Row))
    → IfSome found (λ r. IsRow (shape_of r.now)) → IfSome found (λ r. IsFollowed (shape_of r.now))
followed IsRow follows None is = tt
followed IsRow follows (Some r) is = follows (shape_of r.now) is

-- a check that opens no key under the LMK
abbrev is_target : KeyCheck → Bool
is_target (Target ty k second) = true
is_target (GivenKey k under ty wraps rule parity) = false

abbrev opens_none : RowShape → Bool
opens_none row = list_all is_target (rules_of row).keys

abbrev OpensNothing : RowShape → Type 0
OpensNothing row = (m : Module) (text : List ℕ) → opened_by m row text ≡ []

either_empty : (failed : Bool) (keys : List KeyEntry) → keys ≡ [] → (if failed then [] else keys) ≡ []
either_empty true keys empty = refl
either_empty false keys empty = empty

where_loaded : (loaded : Bool) (keys : List KeyEntry) → keys ≡ [] → (if loaded then keys else []) ≡ []
where_loaded true keys empty = empty
where_loaded false keys empty = refl

no_entries : (q : ReadMessage) (checks : List KeyCheck) → list_all is_target checks ≡ true → checks_entries q checks ≡ []
no_entries q [] all = refl
no_entries q (Target ty k second ∷ checks) all = either_empty (is_some (key_fault q (Target ty k second))) (checks_entries q checks) (no_entries q checks all)
no_entries q (GivenKey k under ty wraps rule parity ∷ checks) all = absurd (cc)

nothing_opened : (row : RowShape) → opens_none row ≡ true → OpensNothing row
unfolding opened_by
nothing_opened row none = λ m text. go m (reading row text) where
  go : (m : Module) (read : Result ReadText Code) → read_entries (message_in m row read) ≡ []
  go m (Err code) = refl
  go m (Ok r) = where_loaded (is_loaded (read_by m row r)) (checks_entries (read_by m row r) (rules_of row).keys) (no_entries (read_by m row r) (rules_of row).keys none)

consoles_open_none : list_all opens_none console_rows ≡ true
unfolding console_rows
consoles_open_none = refl

-- what a message in a row opens: no console row checks a key
pub row_opened : (m : Module) (side : Place) (message : List ℕ) (row : RowShape) → enabled_row m side (command_of m side message) ≡ Some row
    → opened_by m row (text_after m side message) ≡ opened_of m side message
row_opened m Host message row found = sym (ap (opened_in m message) found)
row_opened m Console message row found =
    (enabled_among OpensNothing m Console (command_of m Console message) row (all_by OpensNothing opens_none nothing_opened console_rows consoles_open_none) found) m (text_after m Console message)

-- a message in no row opens none
pub none_opened : (m : Module) (side : Place) (message : List ℕ) → enabled_row m side (command_of m side message) ≡ None → opened_of m side message ≡ []
none_opened m Host message none = ap (opened_in m message) none
none_opened m Console message none = refl

-- the command of a message whose code has no row
pub no_command : (m : Module) (side : Place) (message : List ℕ) → enabled_row m side (command_of m side message) ≡ None → IsCommandOf m side message None
no_command m side message none = record { row = sym none; text = tt; own = tt }

-- the command of a message by its row
pub row_command : (m : Module) (side : Place) (message text : List ℕ) (row : RowShape) (plan : CommandPlan) → enabled_row m side (command_of m side message) ≡ Some row
    → text ≡ text_after m side message → plan_row plan ≡ row → plan_text plan ≡ text → IsPlanOf m plan → IsCommandOf m side message (Some plan)
row_command m side message text row plan found after same read own = record { row = ap Some same ∙ sym found; text = read ∙ after; own = own }

-- no console row has an empty word
word_is_there : (m : Module) (row : RowShape) (code : List ℕ) → enabled_row m Console code ≡ Some row → 1 ≤ length code
unfolding enabled_row console_rows
word_is_there m row [] found = absurd (no_row (list_any (bytes_eq []) m.disabled.items) found) where
  no_row : (disabled : Bool) → cond {A = Option RowShape} disabled None None ≡ Some row → ⊥
  no_row true h = cc
  no_row false h = cc
word_is_there m row (byte ∷ code) found = omega arith

-- header and text leave room for the reply's codes
pub room_is : (m : Module) (kind : Place) (message : List ℕ) (row : RowShape) → least_for m kind ≤ length message → length message ≤ 65535
    → enabled_row m kind (command_of m kind message) ≡ Some row
    → length (header_of m kind message) + length (text_after m kind message) ≤ 65534
room_is m Host message row least most found =
    omega (arith, length-take-le m.header message (omega (arith, least)), length-drop (m.header + 2) message, least, most)
room_is m Console message row least most found =
    omega (arith, word_is_there m row (command_of m Console message) found, length-drop (length (command_of m Console message)) message, most)

-- the answer by the row of a command, after the header
pub command_answer_is : (m : Module) (side : Place) (message : List ℕ) (g : Granted) (plan : CommandPlan) → IsCommandOf m side message (Some plan)
    → message_answer m side message g ≡ header_of m side message ++ answer m (plan_row plan) (plan_text plan) g
command_answer_is m side message g plan c =
    row_answer_is m side message g (plan_row plan) (sym c.row)
    ∙ ap (λ (t : List ℕ). header_of m side message ++ answer m (plan_row plan) t g) (sym c.text)
