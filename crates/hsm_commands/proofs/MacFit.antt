-- The texts of a MAC, by the forms of their fields.
use Rattle.std.proofs.Common.{◌≡◌, ℕ, zero, suc, ◌-◌, ◌<◌, ◌^◌, Bool, true, false, ◌||◌, not, List, [], ◌∷◌, length, Some, None, refl, sym, ap, ◌∙◌, subst, arith}
use Rattle.std.specs.Prelude.{◌==◌, nat_lt, codes, if◌then◌else◌}
use Rattle.std.specs.Str.{bytes_eq}
use Rattle.std.proofs.lemmas.Bool.{and_parts}
use Rattle.std.proofs.lemmas.Slice.Eq.{bytes_eq-Decides}
use Rattle.std.proofs.lemmas.Bool.Decides.{nat_tests}
use Rattle.hsm_mac.specs.declared.Alg.TheVariants.{One, Three}
use Rattle.hsm_mac.specs.Macs.{takes_key}
use Rattle.hsm_rows.specs.declared.row.Form.{Form}
use Rattle.hsm_rows.specs.declared.row.Form.TheVariants as form
use Rattle.hsm_rows.specs.declared.row.Field.{Field}
use Rattle.hsm_rows.specs.declared.rules.MacFields.{MacFields}
use Rattle.hsm_rows.specs.Forms.{text_at, hex_value, mode_is}
use Rattle.hsm_rows.specs.Reading.{ReadText, is_end}
use Rattle.hsm_rows.specs.Standing.{AreHexDigits, IsData, IsInModes, IsCount}
use Rattle.hsm_answers.specs.Keys.{field_text, differs}
use Rattle.hsm_commands.specs.Macs.{AreMacTexts}
use Rattle.hsm_commands.specs.Plans.{IsRead, AreRead}
use Rattle.hsm_commands.specs.Fit.{form_at, is_chain, is_data_by, is_count, is_counted, mac_fits, same_mac}
use Rattle.hsm_commands.proofs.FormLaws.{stood, text_is, count_is}

less : (a b : ℕ) → nat_lt a b ≡ true → a < b
less a b h = grind (arith, nat_tests)

same_number : (a b : ℕ) → (a == b) ≡ true → a ≡ b
same_number a b h = grind (arith, nat_tests)

data_of : (i : ℕ) (f : Form) (e : List (List ℕ)) (t : List ℕ) → is_data_by i f ≡ true → IsRead f e t → IsData (text_at e i) t (hex_value (text_at e (length e - 1)))
data_of i (form.DataByInput j) e t h x =
    let P : ℕ → Type 0 = λ k. IsData (text_at e k) t (hex_value (text_at e (length e - 1))) in
    subst P (sym (same_number i j h)) x
data_of i _ e t h x = let z : ⊥ = cc in absurd z

chain_of : (f : Form) (e : List (List ℕ)) (t : List ℕ) → is_chain f ≡ true → IsRead f e t → IsInModes (codes "23") e t (AreHexDigits 16 t)
chain_of form.Mode23Chain e t h x = x
chain_of _ e t h x = let z : ⊥ = cc in absurd z

absent_in_whole : (mode t : List ℕ) → ((bytes_eq mode (codes "2") || (bytes_eq mode (codes "3") || false)) ≡ false → t ≡ [])
    → bytes_eq mode (codes "0") ≡ true → t ≡ []
absent_in_whole mode t absent h =
    absent (ap (λ (x : List ℕ). bytes_eq x (codes "2") || (bytes_eq x (codes "3") || false)) ((bytes_eq-Decides mode (codes "0")).0 h))

there : (b : Bool) (t : List ℕ) (P : Type 0) → (b ≡ true → P) → (b ≡ false → t ≡ []) → is_end t ≡ false → P
there true t P present absent h = present refl
there false t P present absent h = let e : is_end t ≡ true = ap is_end (absent refl) in absurd (cc)

module _ (fs : List Field) (r : ReadText) (texts : AreRead fs r.texts) (f : MacFields) where
  chain_in : nat_lt 0 f.chain ≡ true → form_at is_chain fs f.chain ≡ true
      → IsInModes (codes "23") (field_text r 0 ∷ []) (field_text r f.chain) (AreHexDigits 16 (field_text r f.chain))
  chain_in after h =
      let s = stood is_chain fs r.texts f.chain texts h in
      let x = chain_of s.form_of s.earlier (field_text r f.chain) s.passes s.stands in
      let first : text_at s.earlier 0 ≡ field_text r 0 = s.before.same 0 (less 0 f.chain after) in
      let same : mode_is (codes "23") s.earlier ≡ mode_is (codes "23") (field_text r 0 ∷ []) =
      ap (λ (t : List ℕ). bytes_eq t (codes "2") || (bytes_eq t (codes "3") || false)) first in
      record { present = λ e. x.present (same ∙ e); absent = λ e. x.absent (same ∙ e) }

  data_in : nat_lt f.input f.message ≡ true → form_at (is_data_by f.input) fs f.message ≡ true
      → IsData (field_text r f.input) (field_text r f.message) (hex_value (field_text r (f.message - 1)))
  data_in after h =
      let s = stood (is_data_by f.input) fs r.texts f.message texts h in
      let x = data_of f.input s.form_of s.earlier (field_text r f.message) s.passes s.stands in
      let before = less f.input f.message after in
      let input : text_at s.earlier f.input ≡ field_text r f.input = s.before.same f.input before in
      let last : text_at s.earlier (length s.earlier - 1) ≡ field_text r (f.message - 1) =
      ap (λ (n : ℕ). text_at s.earlier (n - 1)) s.before.count ∙ s.before.same (f.message - 1) (omega arith) in
      let P : List ℕ → Type 0 = λ t. IsData t (field_text r f.message) (hex_value (text_at s.earlier (length s.earlier - 1))) in
      let Q : List ℕ → Type 0 = λ t. IsData (field_text r f.input) (field_text r f.message) (hex_value t) in
      subst Q last (subst P input x)

  count_in : (k : ℕ) → is_counted fs k ≡ true → hex_value (field_text r (k - 1)) < 2 ^ 16
  count_in zero h = let z : ⊥ = cc in absurd z
  count_in (suc k) h =
      let same : k ≡ suc k - 1 = omega arith in
      let P : ℕ → Type 0 = λ i. hex_value (field_text r i) < 2 ^ 16 in
      subst P same (text_is is_count IsCount count_is fs r.texts k texts h).most

  -- the texts of a MAC's fields
  pub mac_stands : mac_fits fs f ≡ true → AreMacTexts r f
  mac_stands h =
      let a = and_parts _ _ h in
      let b = and_parts _ _ a.0 in
      let c = and_parts _ _ a.1 in
      let d = and_parts _ _ c.0 in
      let e = and_parts _ _ c.1 in
      let chain = chain_in b.1 d.0 in
      let bytes = data_in e.0 d.1 in
      let count = count_in f.message e.1 in
      let mode : f.mode ≡ 0 = same_number f.mode 0 b.0 in
      record {
        whole = λ only. absent_in_whole (field_text r 0) (field_text r f.chain) chain.absent (ap (λ (i : ℕ). bytes_eq (field_text r i) (codes "0")) (sym mode) ∙ only);
        chain = there _ (field_text r f.chain) _ chain.present chain.absent;
        short = omega (arith, bytes.long, count);
        digits = bytes.digits;
        even = bytes.even;
      }

-- the algorithm takes a key of the parts that its rule asks for
pub takes_by : (b : Bool) (key : List (List ℕ)) → differs (if b then Some 2 else None) (length key) ≡ false → takes_key (if b then Three else One) key ≡ true
takes_by true key h = not_different (length key == 2) h where
  not_different : (x : Bool) → not x ≡ false → x ≡ true
  not_different true e = refl
  not_different false e = absurd (cc)
takes_by false key h = refl

same_eight : (a b c d e f g h a' b' c' d' e' f' g' h' : ℕ) → a ≡ a' → b ≡ b' → c ≡ c' → d ≡ d' → e ≡ e' → f ≡ f' → g ≡ g' → h ≡ h'
    → (let x : MacFields = record { mode = a; input = b; size = c; algorithm = d; padding = e; key = f; chain = g; message = h } in x)
    ≡ (record { mode = a'; input = b'; size = c'; algorithm = d'; padding = e'; key = f'; chain = g'; message = h' })
same_eight a b c d e f g h a' b' c' d' e' f' g' h' p q r s t u v w = cc

-- the same fields are one record
pub mac_same : (f g : MacFields) → same_mac f g ≡ true → f ≡ g
mac_same f g h =
    let a = and_parts _ _ h in
    let b = and_parts _ _ a.0 in
    let c = and_parts _ _ b.1 in
    let d = and_parts _ _ c.1 in
    let e = and_parts _ _ a.1 in
    let i = and_parts _ _ e.1 in
    let j = and_parts _ _ i.1 in
    same_eight f.mode f.input f.size f.algorithm f.padding f.key f.chain f.message g.mode g.input g.size g.algorithm g.padding g.key g.chain g.message
    (same_number _ _ b.0) (same_number _ _ c.0) (same_number _ _ d.0) (same_number _ _ d.1) (same_number _ _ e.0) (same_number _ _ i.0) (same_number _ _ j.0) (same_number _ _ j.1)
