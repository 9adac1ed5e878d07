-- The answer and the ask of a message, from what its checks came to.
use Rattle.std.proofs.Common.{◌≡◌, ℕ, List, ◌++◌, refl, ap, ◌∙◌, Option, Some, None, Bool, false}
use Rattle.std.specs.Prelude.{Result, Ok, Err, ◌∷◌, [], if◌then◌else◌}
use Rattle.std.specs.Option.{option_map}
use Rattle.hsm_auth.specs.declared.entry.Granted.{Granted}
use Rattle.hsm_rows.specs.declared.settings.Module.{Module}
use Rattle.hsm_rows.specs.declared.row.Code.{Code}
use Rattle.hsm_rows.specs.Table.{RowShape, rules_of}
use Rattle.hsm_rows.specs.Texts.{two_digits}
use Rattle.hsm_rows.specs.Reading.{reading, ReadText, is_console}
use Rattle.hsm_answers.specs.Read.{ReadMessage, read_by, message_in, message_read}
use Rattle.hsm_answers.specs.declared.plans.Checked.{Checked}
use Rattle.hsm_answers.specs.declared.plans.Checked.TheVariants.{Unread, Failed, Passed}
use Rattle.hsm_answers.specs.Keys.{first_code}
use Rattle.hsm_answers.specs.Checks.{early_fault, check_read, entry_fault}
use Rattle.hsm_answers.specs.Asks.{ask_of, ask_read, row_ask}
use Rattle.hsm_answers.specs.Answers.{answer, host_answer, host_body, console_answer}
use Rattle.hsm_answers.specs.Plans.{IsChecked, AreFields, HasPassed, host_text, fault_at, fields_after, fields_text, code_text, code_number}

-- the body with this refusal, or with none
body_of : (row : RowShape) (q : ReadMessage) (g : Granted) (fields trailer : List ℕ) (fault : Option ℕ)
    → q.read.trailer ≡ trailer → (fault ≡ None → fields_text row q g ≡ fields)
    → host_body row q g fault ≡ code_text fault ++ (fields_after fault fields ++ trailer)
body_of row q g fields trailer (Some code) t f = ap (λ (x : List ℕ). two_digits code ++ x) t
body_of row q g fields trailer None t f = ap (λ (x : List ℕ). two_digits 0 ++ (x ++ q.read.trailer)) (f refl) ∙ ap (λ (x : List ℕ). two_digits 0 ++ (fields ++ x)) t

-- the refusal where the early checks hold
late_code_is : (q : ReadMessage) (g : Granted) (late : Option ℕ) (trailer : List ℕ) → HasPassed q late trailer → check_read q g ≡ first_code (entry_fault g ∷ late ∷ [])
unfolding check_read
late_code_is q g late trailer h = rw (h.early, h.late) refl

-- the answer of a host row
host_answered : (row : RowShape) (rd : Result ReadMessage Code) (g : Granted) (checked : Checked) (fields trailer : List ℕ)
    → IsChecked rd checked trailer → AreFields row rd checked g fields → host_answer row g rd ≡ host_text row checked g fields trailer
unfolding check_read
host_answered row (Err code) g (Unread unread) fields trailer h f = rw (h.0, h.1) refl
host_answered row (Err code) g (Failed failed) fields trailer h f = absurd h
host_answered row (Err code) g (Passed late) fields trailer h f = absurd h
host_answered row (Ok q) g (Unread unread) fields trailer h f = absurd h
host_answered row (Ok q) g (Failed failed) fields trailer h f = rw (h.fault, h.rest) refl
host_answered row (Ok q) g (Passed late) fields trailer h f =
    ap (λ (x : Option ℕ). row.reply ++ host_body row q g x) (late_code_is q g (option_map code_number late) trailer h)
    ∙ ap (λ (x : List ℕ). row.reply ++ x) (body_of row q g fields trailer (fault_at (Passed late) g) h.rest f)

-- the answer of a row that is no console row
pub answered : (m : Module) (row : RowShape) (text : List ℕ) (g : Granted) (checked : Checked) (fields trailer : List ℕ)
    → is_console row ≡ false → IsChecked (message_read m row text) checked trailer → AreFields row (message_read m row text) checked g fields
    → answer m row text g ≡ host_text row checked g fields trailer
unfolding answer
answered m row text g checked fields trailer host h f =
    ap (λ (console : Bool). if console then console_answer row g (message_read m row text) else host_answer row g (message_read m row text)) host
    ∙ host_answered row (message_read m row text) g checked fields trailer h f

-- the ask of a message of which no early check fails
pub passed_ask : (m : Module) (row : RowShape) (text : List ℕ) (r : ReadText)
    → reading row text ≡ Ok r → early_fault (read_by m row r) ≡ None → ask_of m row text ≡ row_ask (read_by m row r) (rules_of row).ask
unfolding ask_of ask_read
passed_ask m row text r h k = ap (λ (x : Result ReadText Code). ask_read (message_in m row x)) h ∙ (rw k refl)
