-- The answer of a console's text, from what its plan keeps.
use Rattle.std.proofs.Common.{◌≡◌, ℕ, Bool, true, List, ◌∷◌, [], ◌++◌, refl, ap, ◌∙◌}
use Rattle.std.specs.Prelude.{Option, Some, None, Result, Ok, Err, if◌then◌else◌, codes}
use Rattle.std.specs.Option.{option_map}
use Rattle.hsm_auth.specs.declared.entry.Granted.{Granted}
use Rattle.hsm_rows.specs.declared.settings.Module.{Module}
use Rattle.hsm_rows.specs.declared.row.Code.{Code}
use Rattle.hsm_rows.specs.Table.{RowShape}
use Rattle.hsm_rows.specs.Reading.{is_console}
use Rattle.hsm_answers.specs.Read.{ReadMessage, message_in, message_read}
use Rattle.hsm_answers.specs.declared.plans.Checked.{Checked}
use Rattle.hsm_answers.specs.declared.plans.Checked.TheVariants.{Unread, Failed, Passed}
use Rattle.hsm_answers.specs.Keys.{first_code}
use Rattle.hsm_answers.specs.Checks.{early_fault, late_fault, check_read, entry_fault}
use Rattle.hsm_answers.specs.Values.{values}
use Rattle.hsm_answers.specs.Answers.{answer, host_answer, console_answer, console_body, is_full, no_code}
use Rattle.hsm_answers.specs.Plans.{IsChecked, fault_at, code_number}
use Rattle.hsm_commands.specs.declared.plan.Plan.{Plan}
use Rattle.hsm_commands.specs.Plans.{plan_row, plan_text, refuses_words, words_refused, written_fields, IsPlanOf, plan_message}
use Rattle.hsm_commands.proofs.PlanSteps.{passed_good}

-- `OK` and the fields that are there, or `NO FULL`
abbrev pub good_text : Granted → List (List ℕ) → List ℕ
good_text g vs = if is_full g then codes "NO FULL" else codes "OK" ++ written_fields true vs

-- the code of the refusal, if there is one
abbrev pub text_after : Option ℕ → Granted → List (List ℕ) → List ℕ
text_after (Some code) g vs = no_code code
text_after None g vs = good_text g vs

-- the answer, the words being refused or not, after these checks and with these values of the reply fields
abbrev pub console_text : Bool → Checked → Granted → List (List ℕ) → List ℕ
console_text refused checked g vs = if refused then codes "NO WORDS" else text_after (fault_at checked g) g vs

-- these are the values of the reply fields, where what was read is not refused
abbrev AreValues : RowShape → Result ReadMessage Code → Checked → Granted → List (List ℕ) → Type 0
AreValues row (Err code) checked g vs = Unit {0}
AreValues row (Ok q) checked g vs = fault_at checked g ≡ None → values q g row.terms ≡ vs

taken : ReadMessage → Result ReadMessage Code → ReadMessage
taken other (Ok q) = q
taken other (Err code) = other

are_values : (row : RowShape) (rd : Result ReadMessage Code) (checked : Checked) (g : Granted) (q : ReadMessage) → (checked ≡ Passed None → rd ≡ Ok q)
    → AreValues row rd checked g (values q g row.terms)
unfolding taken
are_values row (Err code) checked g q read = tt
are_values row (Ok s) checked g q read = λ none. ap (λ (x : Result ReadMessage Code). values (taken s x) g row.terms) (read (passed_good checked g none))

-- the text with this refusal, or with none
text_of : (row : RowShape) (q : ReadMessage) (g : Granted) (vs : List (List ℕ)) (fault : Option ℕ)
    → (fault ≡ None → values q g row.terms ≡ vs) → console_body row q g fault ≡ text_after fault g vs
text_of row q g vs (Some code) v = refl
text_of row q g vs None v = ap (good_text g) (v refl)

-- the refusal where the early checks hold
passed_fault : (q : ReadMessage) (g : Granted) (late : Option ℕ)
    → early_fault q ≡ None → late_fault q ≡ late → check_read q g ≡ first_code (entry_fault g ∷ late ∷ [])
unfolding check_read
passed_fault q g late b a = rw (b, a) refl

-- the refusal where an early check fails
failed_fault : (q : ReadMessage) (g : Granted) (code : ℕ) → early_fault q ≡ Some code → check_read q g ≡ Some code
unfolding check_read
failed_fault q g code b = rw b refl

-- the same text, where words are refused or not
by_words : (a b : Bool) (x y : List ℕ) → a ≡ b → x ≡ y → (if b then codes "NO WORDS" else x) ≡ (if a then codes "NO WORDS" else y)
by_words a b x y ea ex = rw (ea, ex) refl

console_read : (row : RowShape) (rd : Result ReadMessage Code) (g : Granted) (checked : Checked) (trailer : List ℕ) (refused : Bool) (vs : List (List ℕ))
    → IsChecked rd checked trailer → refused ≡ words_refused rd → AreValues row rd checked g vs
    → console_answer row g rd ≡ console_text refused checked g vs
console_read row (Err code) g (Unread unread) trailer refused vs h w v = rw (w, h.0) refl
console_read row (Err code) g (Failed failed) trailer refused vs h w v = absurd h
console_read row (Err code) g (Passed late) trailer refused vs h w v = absurd h
console_read row (Ok q) g (Unread unread) trailer refused vs h w v = absurd h
console_read row (Ok q) g (Failed failed) trailer refused vs h w v =
    by_words refused (refuses_words q) (console_body row q g (check_read q g)) (text_after (Some failed.0) g vs) w
    (ap (console_body row q g) (failed_fault q g failed.0 h.fault))
console_read row (Ok q) g (Passed late) trailer refused vs h w v =
    by_words refused (refuses_words q) (console_body row q g (check_read q g)) (text_after (fault_at (Passed late) g) g vs) w
    (ap (console_body row q g) (passed_fault q g (option_map code_number late) h.early h.late) ∙ text_of row q g vs (fault_at (Passed late) g) v)

-- what a plan of the console's keeps tells its answer
pub console_answered : (m : Module) (p : Plan) (g : Granted) → is_console (plan_row p) ≡ true → IsPlanOf m p
    → answer m (plan_row p) (plan_text p) g ≡ console_text p.wrong_words p.found.checked g (values (plan_message m p) g (plan_row p).terms)
unfolding answer
console_answered m p g console h =
    let row = plan_row p in
    let rd = message_read m row (plan_text p) in
    let read : p.found.checked ≡ Passed None → rd ≡ Ok (plan_message m p) = λ e. ap (message_in m row) (h.read e) in
    ap (λ (b : Bool). if b then console_answer row g rd else host_answer row g rd) console
    ∙ console_read row rd g p.found.checked p.fields.trailer.now p.wrong_words _ h.planned.checks h.words (are_values row rd p.found.checked g (plan_message m p) read)
