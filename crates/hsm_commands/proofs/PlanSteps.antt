-- What a plan keeps, for a row whose rules can be followed.
use Rattle.std.proofs.Common.{◌≡◌, ℕ, ◌+◌, ◌≤◌, length, inl, inr, arith, Bool, true, false, List, [], ◌∷◌, Option, Some, None, refl, sym, ap, ◌∙◌, subst}
use Rattle.std.specs.Prelude.{is_none, if◌then◌else◌, Result, Ok, Err}
use Rattle.hsm_auth.specs.declared.entry.Granted.{Granted}
use Rattle.hsm_rows.specs.declared.settings.Module.{Module}
use Rattle.hsm_rows.specs.declared.row.Code.{Code}
use Rattle.hsm_rows.specs.Table.{RowShape}
use Rattle.hsm_rows.specs.Reading.{ReadText, reading}
use Rattle.hsm_answers.specs.Read.{read_by, message_in}
use Rattle.hsm_answers.specs.declared.plans.Checked.{Checked}
use Rattle.hsm_answers.specs.declared.plans.Checked.TheVariants.{Unread, Failed, Passed}
use Rattle.hsm_answers.specs.Keys.{first_code}
use Rattle.hsm_answers.specs.Checks.{is_refused}
use Rattle.hsm_answers.specs.Asks.{ask_of, ask_read, empty_ask}
use Rattle.hsm_answers.specs.Plans.{IsPlanned, IsChecked, AreFields, fields_text, fault_at, code_number}
use Rattle.hsm_auth.specs.History.{CanAsk}
use Rattle.std.specs.Option.{option_map}
use Rattle.hsm_auth.specs.declared.entry.Ask.{Ask}
use Rattle.hsm_commands.specs.declared.reply_fields.HeldParts.{HeldParts}
use Rattle.hsm_commands.specs.Plans.{AreRead, AreChecked, IsFollowed, IsHeld, IsReady, FitsText}

-- the early checks held, and no late one fails, where the message is answered 00
late_none : (refused : Bool) (late : Option Code) → first_code ((if refused then Some 17 else None) ∷ option_map code_number late ∷ []) ≡ None → late ≡ None
late_none true late h = let z : ⊥ = cc in absurd z
late_none false None h = refl
late_none false (Some code) h = let z : ⊥ = cc in absurd z

pub passed_good : (checked : Checked) (g : Granted) → fault_at checked g ≡ None → checked ≡ Passed None
passed_good (Unread code) g h = let z : ⊥ = cc in absurd z
passed_good (Failed code) g h = let z : ⊥ = cc in absurd z
passed_good (Passed late) g h = ap Passed (late_none (is_refused g) late h)

passed_none : (checked : Checked) (g : Granted) (fault : Option ℕ) → fault_at checked g ≡ fault → is_none fault ≡ true → checked ≡ Passed None
passed_none checked g None e h = passed_good checked g e
passed_none checked g (Some code) e h = let z : ⊥ = cc in absurd z

pub passed_by : (checked : Checked) (g : Granted) (good : Bool) → good ≡ is_none (fault_at checked g) → good ≡ true → checked ≡ Passed None
passed_by checked g good e h = passed_none checked g (fault_at checked g) refl (sym e ∙ h)

-- the reply fields have room after the reply code and the error code, or after `OK`
pub room_before : (echo : Bool) (size old coded : ℕ) (text trailer : List ℕ) → FitsText echo size text trailer → coded ≤ old + 4 → old ≤ 255
    → (echo ≡ true → old + length text ≤ 65534) → coded + size ≤ 65535
room_before echo size old coded text trailer (inl short) grown few whole = omega arith
room_before echo size old coded text trailer (inr inside) grown few whole = omega (arith, whole inside.0, inside.1)

-- and the trailer after them
pub room_after : (echo : Bool) (size old coded filled : ℕ) (text trailer : List ℕ) → FitsText echo size text trailer → coded ≤ old + 4
    → filled ≤ coded + size → length trailer ≤ 33 → old ≤ 255 → (echo ≡ true → old + length text ≤ 65534) → filled + length trailer ≤ 65535
room_after echo size old coded filled text trailer (inl short) grown more tail few whole = omega arith
room_after echo size old coded filled text trailer (inr inside) grown more tail few whole = omega (arith, whole inside.0, inside.1)

-- what is planned of a text of the row
module _ (m : Module) (row : RowShape) (text : List ℕ) where
  pub unread_planned : (ask : Ask) (checked : Checked) (code : Code) (fields : Granted → List ℕ) → reading row text ≡ Err code → ask ≡ empty_ask → checked ≡ Unread code
      → IsPlanned m row text ask checked [] fields
  unfolding ask_of ask_read
  unread_planned ask checked code fields e a h =
      let C : Result ReadText Code → Type 0 = λ x. IsChecked (message_in m row x) (Unread code) [] in
      let F : Granted → Result ReadText Code → Type 0 = λ g x. AreFields row (message_in m row x) (Unread code) g (fields g) in
      let P : Ask → Checked → Type 0 = λ x y. IsPlanned m row text x y [] fields in
      let planned : P empty_ask (Unread code) = record {
        asked = sym (ap (λ (x : Result ReadText Code). ask_read (message_in m row x)) e);
        may = omega arith;
        checks = subst C (sym e) (refl, refl);
        short = omega arith;
        answers = λ g. subst (F g) (sym e) tt;
      } in
      subst (λ x. P ask x) (sym h) (subst (λ x. P x (Unread code)) (sym a) planned)

  checked_is : (r : ReadText) (checked : Checked) → AreChecked (read_by m row r) checked → IsChecked (Ok (read_by m row r)) checked r.trailer
  checked_is r (Unread code) h = absurd h
  checked_is r (Failed code) h = record { fault = h; rest = refl }
  checked_is r (Passed late) h = record { early = h.0; late = h.1; rest = refl }

  pub read_planned : (ask : Ask) (checked : Checked) (r : ReadText) → reading row text ≡ Ok r → ask ≡ ask_read (Ok (read_by m row r)) → CanAsk ask
      → AreChecked (read_by m row r) checked → length r.trailer ≤ 33 → IsPlanned m row text ask checked r.trailer (fields_text row (read_by m row r))
  unfolding ask_of
  read_planned ask checked r e a may h short =
      let C : Result ReadText Code → Type 0 = λ x. IsChecked (message_in m row x) checked r.trailer in
      let F : Granted → Result ReadText Code → Type 0 = λ g x. AreFields row (message_in m row x) checked g (fields_text row (read_by m row r) g) in
      record {
        asked = a ∙ sym (ap (λ (x : Result ReadText Code). ask_read (message_in m row x)) e);
        may = may;
        checks = subst C (sym e) (checked_is r checked h);
        short = short;
        answers = λ g. subst (F g) (sym e) (λ none. refl);
      }

-- what is held is what the reply fields need
pub ready_is : (m : Module) (row : RowShape) (followed : IsFollowed row) (r : ReadText) → AreRead row.fields r.texts → (held : HeldParts) → IsHeld (read_by m row r) held
    → IsReady (read_by m row r) row.terms held
ready_is m row followed r texts held h = record {
  loaded = h.loaded;
  pin = ((followed.stands m r texts).steps held.keys h.keys).pin;
  left = h.left;
  fields = followed.terms m r texts held.keys h.keys;
  value = h.value;
  chain = h.chain;
}
