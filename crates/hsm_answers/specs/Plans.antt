-- What a message's checks came to before its entry, and what it is answered after them.
use Rattle.std.specs.Prelude.{◌≡◌, ℕ, ◌≤◌, List, [], ◌∷◌, ◌++◌, length, flat_map, Option, Some, None, Result, Ok, Err}
use Rattle.std.specs.Option.{option_map}
use Rattle.hsm_auth.specs.declared.entry.Ask.{Ask}
use Rattle.hsm_auth.specs.declared.entry.Granted.{Granted}
use Rattle.hsm_auth.specs.History.{CanAsk}
use Rattle.hsm_rows.specs.declared.settings.Module.{Module}
use Rattle.hsm_rows.specs.declared.row.Code.{Code}
use Rattle.hsm_rows.specs.Table.{RowShape}
use Rattle.hsm_rows.specs.Texts.{two_digits}
use Rattle.hsm_answers.specs.Read.{ReadMessage, message_read}
use Rattle.hsm_answers.specs.declared.plans.Checked.{Checked}
use Rattle.hsm_answers.specs.declared.plans.Checked.TheVariants.{Unread, Failed, Passed}
use Rattle.hsm_answers.specs.Keys.{first_code}
use Rattle.hsm_answers.specs.Values.{values}
use Rattle.hsm_answers.specs.Checks.{early_fault, late_fault, entry_fault}
use Rattle.hsm_answers.specs.Asks.{ask_of}

-- the number of a code
abbrev pub code_number : Code → ℕ
code_number code = code.0

-- an early check fails
pub record HasFailed (q : ReadMessage) (code : ℕ) (trailer : List ℕ) : Type 0 where
  pub fault : early_fault q ≡ Some code
  pub rest : q.read.trailer ≡ trailer

-- the early checks hold, and this is what the late ones find
pub record HasPassed (q : ReadMessage) (found : Option ℕ) (trailer : List ℕ) : Type 0 where
  pub early : early_fault q ≡ None
  pub late : late_fault q ≡ found
  pub rest : q.read.trailer ≡ trailer

-- the checks of what was read came to this, and this is the trailer that is repeated
abbrev pub IsChecked : Result ReadMessage Code → Checked → List ℕ → Type 0
IsChecked (Err code) (Unread unread) trailer = (code ≡ unread) × (trailer ≡ [])
IsChecked (Err code) (Failed failed) trailer = ⊥
IsChecked (Err code) (Passed late) trailer = ⊥
IsChecked (Ok q) (Unread unread) trailer = ⊥
IsChecked (Ok q) (Failed failed) trailer = HasFailed q failed.0 trailer
IsChecked (Ok q) (Passed late) trailer = HasPassed q (option_map code_number late) trailer

-- the code of the refusal at the entry, if there is one
abbrev pub fault_at : Checked → Granted → Option ℕ
fault_at (Unread code) g = Some code.0
fault_at (Failed code) g = Some code.0
fault_at (Passed late) g = first_code (entry_fault g ∷ option_map code_number late ∷ [])

-- the error code, 00 where there is no refusal
abbrev pub code_text : Option ℕ → List ℕ
code_text None = two_digits 0
code_text (Some code) = two_digits code

-- the reply fields, which follow the error code 00 alone
abbrev pub fields_after : Option ℕ → List ℕ → List ℕ
fields_after None fields = fields
fields_after (Some code) fields = []

-- the answer of a host row after these checks, with these reply fields and this trailer
abbrev pub host_text : RowShape → Checked → Granted → List ℕ → List ℕ → List ℕ
host_text row checked g fields trailer = row.reply ++ (code_text (fault_at checked g) ++ (fields_after (fault_at checked g) fields ++ trailer))

-- the values of the reply fields one after another
abbrev pub fields_text : RowShape → ReadMessage → Granted → List ℕ
fields_text row q g = flat_map (λ field. field) (values q g row.terms)

-- these are the reply fields, where what was read is answered 00
abbrev pub AreFields : RowShape → Result ReadMessage Code → Checked → Granted → List ℕ → Type 0
AreFields row (Err code) checked g fields = Unit {0}
AreFields row (Ok q) checked g fields = fault_at checked g ≡ None → fields_text row q g ≡ fields

-- What a plan keeps of a message of the row: its ask, what its checks came to, the trailer that is repeated, and its reply fields by the answer of its entry.
pub record IsPlanned (m : Module) (row : RowShape) (text : List ℕ) (ask : Ask) (checked : Checked) (trailer : List ℕ) (fields : Granted → List ℕ) : Type 0 where
  pub asked : ask ≡ ask_of m row text
  pub may : CanAsk ask
  pub checks : IsChecked (message_read m row text) checked trailer
  pub short : length trailer ≤ 33
  pub answers : (g : Granted) → AreFields row (message_read m row text) checked g (fields g)
