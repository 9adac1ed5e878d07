-- The texts of components are the digits of as many parts as the scheme has.
use Rattle.std.proofs.Common.{◌≡◌, ℕ, ◌*◌, ◌<◌, true, List, [], ◌∷◌, refl, ◌∙◌, sym, subst, arith, inl, inr}
use Rattle.std.specs.Prelude.{◌⊎◌, nat_lt}
use Rattle.std.proofs.lemmas.Bool.{and_parts}
use Rattle.std.proofs.lemmas.Bool.Decides.{nat_tests}
use Rattle.hsm_types.specs.Schemes.{scheme_parts}
use Rattle.hsm_rows.specs.declared.row.Form.{Form}
use Rattle.hsm_rows.specs.declared.row.Form.TheVariants as form
use Rattle.hsm_rows.specs.declared.row.Field.{Field}
use Rattle.hsm_rows.specs.Forms.{text_at, component_digits}
use Rattle.hsm_rows.specs.Reading.{ReadText}
use Rattle.hsm_rows.specs.Standing.{AreHexDigits}
use Rattle.hsm_answers.specs.Keys.{field_text, scheme_at}
use Rattle.hsm_text.specs.KeyTexts.{scheme_named}
use Rattle.hsm_commands.specs.Components.{IsComponentOf, MayBeComponentOf, MayBeComponents, AreComponents}
use Rattle.hsm_commands.specs.Plans.{IsRead, AreRead}
use Rattle.hsm_commands.specs.Fit.{form_at, is_scheme_form, is_component, may_be_component, others_fit, components_fit}
use Rattle.hsm_commands.proofs.FormLaws.{stood, text_is, scheme_means, IsLetter}
use Rattle.hsm_commands.proofs.HeldKeys.{same_number}

less : (a b : ℕ) → nat_lt a b ≡ true → a < b
less a b h = grind (arith, nat_tests)

-- digits of a component by the letter of a scheme, or nothing
abbrev Digits : List ℕ → List ℕ → Type 0
Digits letter t = AreHexDigits (component_digits letter) t

abbrev MayBeDigits : List ℕ → List ℕ → Type 0
MayBeDigits letter t = (t ≡ []) ⊎ Digits letter t

of_form : (j : ℕ) (f : Form) (e : List (List ℕ)) (t : List ℕ) → is_component j f ≡ true → IsRead f e t → Digits (text_at e j) t
of_form j (form.Component i) e t h x =
    let P : ℕ → Type 0 = λ k. Digits (text_at e k) t in
    subst P (sym (same_number j i h)) x
of_form j _ e t h x = let z : ⊥ = cc in absurd z

maybe_of_form : (j : ℕ) (f : Form) (e : List (List ℕ)) (t : List ℕ) → may_be_component j f ≡ true → IsRead f e t → MayBeDigits (text_at e j) t
maybe_of_form j (form.Component i) e t h x = inr (of_form j (form.Component i) e t h x)
maybe_of_form j (form.LastComponent i) e t h x =
    let P : ℕ → Type 0 = λ k. MayBeDigits (text_at e k) t in
    subst P (sym (same_number j i h)) x
maybe_of_form j _ e t h x = let z : ⊥ = cc in absurd z

module _ (fs : List Field) (r : ReadText) (texts : AreRead fs r.texts) (j : ℕ) (letter : form_at is_scheme_form fs j ≡ true) where
  -- 16 digits a part
  parts_of : component_digits (field_text r j) ≡ 16 * scheme_parts (scheme_at r j)
  parts_of = by (field_text r j) (text_is is_scheme_form IsLetter scheme_means fs r.texts j texts letter) where
    by : (t : List ℕ) → IsLetter t → component_digits t ≡ 16 * scheme_parts (scheme_named t)
    by t (inl e) = rw e refl
    by t (inr (inl e)) = rw e refl
    by t (inr (inr (inl e))) = rw e refl
    by t (inr (inr (inr e))) = absurd e

  component_of : (t : List ℕ) → Digits (field_text r j) t → IsComponentOf (scheme_at r j) t
  component_of t d = record { size = d.0 ∙ parts_of; digits = d.1 }

  maybe_of : (t : List ℕ) → MayBeDigits (field_text r j) t → MayBeComponentOf (scheme_at r j) t
  maybe_of t (inl e) = inl e
  maybe_of t (inr d) = inr (component_of t d)

  one_there : (k : ℕ) → nat_lt j k ≡ true → form_at (is_component j) fs k ≡ true → IsComponentOf (scheme_at r j) (field_text r k)
  one_there k after h =
      let s = stood (is_component j) fs r.texts k texts h in
      let P : List ℕ → Type 0 = λ l. Digits l (field_text r k) in
      component_of (field_text r k) (subst P (s.before.same j (less j k after)) (of_form j s.form_of s.earlier (field_text r k) s.passes s.stands))

  maybe_there : (k : ℕ) → nat_lt j k ≡ true → form_at (may_be_component j) fs k ≡ true → MayBeComponentOf (scheme_at r j) (field_text r k)
  maybe_there k after h =
      let s = stood (may_be_component j) fs r.texts k texts h in
      let P : List ℕ → Type 0 = λ l. MayBeDigits l (field_text r k) in
      maybe_of (field_text r k) (subst P (s.before.same j (less j k after)) (maybe_of_form j s.form_of s.earlier (field_text r k) s.passes s.stands))

  others_there : (ks : List ℕ) → others_fit fs j ks ≡ true → MayBeComponents (scheme_at r j) r ks
  others_there [] h = tt
  others_there (k ∷ ks) h =
      let p = and_parts _ _ h in
      let q = and_parts _ _ p.0 in
      (maybe_there k q.0 q.1, others_there ks p.1)

pub components_there : (fs : List Field) (r : ReadText) → AreRead fs r.texts → (j : ℕ) (ks : List ℕ) → components_fit fs j ks ≡ true → AreComponents (scheme_at r j) r ks
components_there fs r texts j [] h = let z : ⊥ = cc in absurd z
components_there fs r texts j (k ∷ ks) h =
    let p = and_parts _ _ h in
    let q = and_parts _ _ p.1 in
    let one = and_parts _ _ q.0 in
    (one_there fs r texts j p.0 k one.0 one.1, others_there fs r texts j p.0 ks q.1)
