-- What the text of a field is, by the test that its form passes.
use Rattle.std.proofs.Common.{◌≡◌, ℕ, zero, suc, ◌+◌, ◌<◌, ◌≤◌, Bool, true, false, List, [], ◌∷◌, length, ◌++◌, refl, sym, ap, ◌∙◌, subst, arith, length-append, inl, inr}
use Rattle.std.specs.Prelude.{◌==◌, nat_lt, codes}
use Rattle.std.proofs.Math.ListN.{get_or-append}
use Rattle.std.proofs.Math.Seq.{get_or-append_seam}
use Rattle.std.proofs.lemmas.Bool.Decides.{nat_tests}
use Rattle.hsm_types.specs.Schemes.{scheme_parts}
use Rattle.hsm_text.specs.KeyTexts.{scheme_of}
use Rattle.hsm_rows.specs.declared.row.Form.{Form}
use Rattle.hsm_rows.specs.declared.row.Form.TheVariants as form
use Rattle.hsm_rows.specs.declared.row.Field.{Field}
use Rattle.hsm_rows.specs.Forms.{text_at, is_minutes}
use Rattle.hsm_rows.specs.Table.{RowShape}
use Rattle.hsm_rows.specs.Reading.{ReadText, is_console}
use Rattle.hsm_rows.specs.Standing.{IsText, EachText, AreTexts, IsTextOrAbsent, AreTextsOrAbsent, IsOneOf, AreDigits, AreHexDigits, IsLength, IsValidation, IsFormat, IsAccount, IsCount}
use Rattle.hsm_commands.specs.Plans.{IsRead, AreRead}
use Rattle.hsm_commands.specs.Fit.{form_at, is_digits, is_hex16, is_length, is_clear_pin, is_pair, is_validation, is_brief, is_account, is_count, is_scheme_form, is_minutes_form}

-- ---- what is read of a row

each_read : (P : Form → List (List ℕ) → List ℕ → Type 0) → ((f : Form) (e : List (List ℕ)) (t : List ℕ) → P f e t → IsRead f e t)
    → (fs : List Field) (e : List (List ℕ)) (k : ℕ) (texts : List (List ℕ)) → EachText P fs e k texts → EachText IsRead fs e k texts
each_read P same [] e k texts all = tt
each_read P same (f ∷ fs) e k texts all = (same f.form e (text_at texts k) all.0, each_read P same fs (e ++ text_at texts k ∷ []) (k + 1) texts all.1)

text_read : (f : Form) (e : List (List ℕ)) (t : List ℕ) → IsText f e t → IsRead f e t
text_read (form.LastComponent scheme) e t h = inr h
text_read form.SetNumber e t h = inr h
text_read _ e t h = h

absent_read : (f : Form) (e : List (List ℕ)) (t : List ℕ) → IsTextOrAbsent f e t → IsRead f e t
absent_read (form.LastComponent scheme) e t (inl h) = inr h
absent_read (form.LastComponent scheme) e t (inr h) = inl h.0
absent_read form.SetNumber e t (inl h) = inr h
absent_read form.SetNumber e t (inr h) = inl h.0
absent_read _ e t (inl h) = h
absent_read _ e t (inr h) = let n : false ≡ true = h.1.1 in let z : ⊥ = cc in absurd z

-- the texts of a host row, and those of a console row
texts_read : (row : RowShape) (r : ReadText) (console : Bool) → is_console row ≡ console → (is_console row ≡ false → AreTexts row.fields r.texts)
    → (is_console row ≡ true → AreTextsOrAbsent row.fields r.texts) → AreRead row.fields r.texts
texts_read row r false e host officer = each_read IsText text_read row.fields [] 0 r.texts (host e)
texts_read row r true e host officer = each_read IsTextOrAbsent absent_read row.fields [] 0 r.texts (officer e)

pub are_read : (row : RowShape) (r : ReadText) → (is_console row ≡ false → AreTexts row.fields r.texts) → (is_console row ≡ true → AreTextsOrAbsent row.fields r.texts)
    → AreRead row.fields r.texts
are_read row r host officer = texts_read row r (is_console row) refl host officer

-- ---- forms

-- what a form that passes the test says of its text
abbrev pub Means : (Form → Bool) → (List ℕ → Type 0) → Type 0
Means test Q = (f : Form) (e : List (List ℕ)) (t : List ℕ) → test f ≡ true → IsRead f e t → Q t

each_at : (test : Form → Bool) (Q : List ℕ → Type 0) → Means test Q → (fs : List Field) (earlier : List (List ℕ)) (n : ℕ) (texts : List (List ℕ)) (k : ℕ)
    → EachText IsRead fs earlier n texts → form_at test fs k ≡ true → Q (text_at texts (n + k))
each_at test Q means [] earlier n texts k all h = let z : ⊥ = cc in absurd z
each_at test Q means (f ∷ fs) earlier n texts zero all h =
    let e : n ≡ n + 0 = omega arith in
    let P : ℕ → Type 0 = λ i. Q (text_at texts i) in
    subst P e (means f.form earlier (text_at texts n) h all.0)
each_at test Q means (f ∷ fs) earlier n texts (suc k) all h =
    let e : (n + 1) + k ≡ n + suc k = omega arith in
    let P : ℕ → Type 0 = λ i. Q (text_at texts i) in
    subst P e (each_at test Q means fs (earlier ++ text_at texts n ∷ []) (n + 1) texts k all.1 h)

-- the text of field k
pub text_is : (test : Form → Bool) (Q : List ℕ → Type 0) → Means test Q → (fs : List Field) (texts : List (List ℕ)) (k : ℕ)
    → AreRead fs texts → form_at test fs k ≡ true → Q (text_at texts k)
text_is test Q means fs texts k all h =
    let e : 0 + k ≡ k = omega arith in
    let P : ℕ → Type 0 = λ i. Q (text_at texts i) in
    subst P e (each_at test Q means fs [] 0 texts k all h)

same_count : (n k : ℕ) (t : List ℕ) → (n == k) ≡ true → AreDigits k t → AreDigits n t
same_count n k t h d =
    let e : k ≡ n = grind (arith, nat_tests) in
    let P : ℕ → Type 0 = λ i. AreDigits i t in
    subst P e d

pub digits_mean : (n : ℕ) → Means (is_digits n) (AreDigits n)
digits_mean n form.Digits1 e t h x = same_count n 1 t h x
digits_mean n form.Digits3 e t h x = same_count n 3 t h x
digits_mean n form.Digits4 e t h x = same_count n 4 t h x
digits_mean n form.Digits12 e t h x = same_count n 12 t h x
digits_mean n form.Digits16 e t h x = same_count n 16 t h x
digits_mean n _ e t h x = let z : ⊥ = cc in absurd z

pub hex16_means : Means is_hex16 (AreHexDigits 16)
hex16_means form.Hex16 e t h x = x
hex16_means _ e t h x = let z : ⊥ = cc in absurd z

pub length_means : Means is_length IsLength
length_means form.Length e t h x = x
length_means _ e t h x = let z : ⊥ = cc in absurd z

abbrev pub IsTwelve : List ℕ → Type 0
IsTwelve t = length t ≡ 12

pub clear_means : Means is_clear_pin IsTwelve
clear_means form.ClearPin e t h x = x.long
clear_means _ e t h x = let z : ⊥ = cc in absurd z

abbrev pub HasTwoParts : List ℕ → Type 0
HasTwoParts t = scheme_parts (scheme_of t) ≡ 2

pub pair_means : Means is_pair HasTwoParts
pair_means form.Pair e t h x = x.parts
pair_means _ e t h x = let z : ⊥ = cc in absurd z

pub validation_means : Means is_validation IsValidation
validation_means form.Validation e t h x = x
validation_means _ e t h x = let z : ⊥ = cc in absurd z

abbrev pub IsBrief : List ℕ → Type 0
IsBrief t = length t ≤ 600

format_brief : (t : List ℕ) → IsFormat t → IsBrief t
format_brief t (inl e) = omega (arith, ap length e)
format_brief t (inr (inl e)) = omega (arith, ap length e)
format_brief t (inr (inr (inl e))) = omega (arith, ap length e)
format_brief t (inr (inr (inr e))) = omega (arith, ap length e)

pub brief_means : Means is_brief IsBrief
brief_means form.Digits1 e t h x = omega (arith, x.0)
brief_means form.Digits3 e t h x = omega (arith, x.0)
brief_means form.Digits4 e t h x = omega (arith, x.0)
brief_means form.Digits12 e t h x = omega (arith, x.0)
brief_means form.Digits16 e t h x = omega (arith, x.0)
brief_means form.Hex16 e t h x = omega (arith, x.0)
brief_means form.Format e t h x = format_brief t x
brief_means _ e t h x = let z : ⊥ = cc in absurd z

pub account_means : Means is_account IsAccount
account_means form.Account e t h x = x
account_means _ e t h x = let z : ⊥ = cc in absurd z

abbrev pub IsFour : List ℕ → Type 0
IsFour t = length t ≡ 4

pub count_means : Means is_count IsFour
count_means form.Count e t h x = x.digits.0
count_means _ e t h x = let z : ⊥ = cc in absurd z

pub count_is : Means is_count IsCount
count_is form.Count e t h x = x
count_is _ e t h x = let z : ⊥ = cc in absurd z

-- the letter of a scheme
abbrev pub IsLetter : List ℕ → Type 0
IsLetter t = IsOneOf (codes "Z" ∷ codes "U" ∷ codes "T" ∷ []) t

pub scheme_means : Means is_scheme_form IsLetter
scheme_means form.Scheme e t h x = x
scheme_means _ e t h x = let z : ⊥ = cc in absurd z

abbrev pub AreMinutes : List ℕ → Type 0
AreMinutes t = is_minutes t ≡ true

pub minutes_mean : Means is_minutes_form AreMinutes
minutes_mean form.Minutes e t h x = x
minutes_mean _ e t h x = let z : ⊥ = cc in absurd z

-- the texts before field n
pub record Earlier (texts : List (List ℕ)) (n : ℕ) (earlier : List (List ℕ)) : Type 0 where
  pub count : length earlier ≡ n
  pub same : (j : ℕ) → j < n → text_at earlier j ≡ text_at texts j

-- a field's form and the texts before it
pub record Stood (test : Form → Bool) (texts : List (List ℕ)) (k : ℕ) : Type 0 where
  pub form_of : Form
  pub earlier : List (List ℕ)
  pub before : Earlier texts k earlier
  pub passes : test form_of ≡ true
  pub stands : IsRead form_of earlier (text_at texts k)

one_more_by : (texts : List (List ℕ)) (n : ℕ) (earlier : List (List ℕ)) → Earlier texts n earlier → (j : ℕ) → j < n + 1 → (b : Bool) → nat_lt j n ≡ b
    → text_at (earlier ++ text_at texts n ∷ []) j ≡ text_at texts j
one_more_by texts n earlier e j h true t =
    let less : j < n = grind (arith, nat_tests) in
    get_or-append earlier (text_at texts n ∷ []) [] j (omega (arith, e.count, less)) ∙ e.same j less
one_more_by texts n earlier e j h false t =
    let same : j ≡ n = grind (arith, nat_tests) in
    let at : j ≡ length earlier = same ∙ sym e.count in
    ap (λ (i : ℕ). text_at (earlier ++ text_at texts n ∷ []) i) at ∙ (get_or-append_seam earlier (text_at texts n) [] [] ∙ ap (λ (i : ℕ). text_at texts i) (sym same))

one_more_text : (texts : List (List ℕ)) (n : ℕ) (earlier : List (List ℕ)) → Earlier texts n earlier → Earlier texts (n + 1) (earlier ++ text_at texts n ∷ [])
one_more_text texts n earlier e = record {
  count = omega (arith, length-append earlier (text_at texts n ∷ []), e.count);
  same = λ j h. one_more_by texts n earlier e j h (nat_lt j n) refl;
}

stood_at : (test : Form → Bool) (fs : List Field) (earlier : List (List ℕ)) (n : ℕ) (texts : List (List ℕ)) (k : ℕ)
    → Earlier texts n earlier → EachText IsRead fs earlier n texts → form_at test fs k ≡ true → Stood test texts (n + k)
stood_at test [] earlier n texts k e all h = let z : ⊥ = cc in absurd z
stood_at test (f ∷ fs) earlier n texts zero e all h =
    let at : n ≡ n + 0 = omega arith in
    let P : ℕ → Type 0 = λ i. Stood test texts i in
    subst P at (record { form_of = f.form; earlier = earlier; before = e; passes = h; stands = all.0 })
stood_at test (f ∷ fs) earlier n texts (suc k) e all h =
    let at : (n + 1) + k ≡ n + suc k = omega arith in
    let P : ℕ → Type 0 = λ i. Stood test texts i in
    subst P at (stood_at test fs (earlier ++ text_at texts n ∷ []) (n + 1) texts k (one_more_text texts n earlier e) all.1 h)

pub stood : (test : Form → Bool) (fs : List Field) (texts : List (List ℕ)) (k : ℕ) → AreRead fs texts → form_at test fs k ≡ true → Stood test texts k
stood test fs texts k all h =
    let at : 0 + k ≡ k = omega arith in
    let P : ℕ → Type 0 = λ i. Stood test texts i in
    subst P at (stood_at test fs [] 0 texts k (record { count = refl; same = λ j h. absurd (omega arith) }) all h)
