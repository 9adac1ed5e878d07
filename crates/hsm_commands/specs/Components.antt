-- Components of keys.
use Rattle.std.specs.Prelude.{◌≡◌, ◌⊎◌, ℕ, ◌*◌, true, List, [], ◌∷◌, length}
use Rattle.std.specs.List.{list_all}
use Rattle.std.specs.Char.{is_ascii_hexdigit}
use Rattle.hsm_types.specs.declared.types.Scheme.{Scheme}
use Rattle.hsm_types.specs.Schemes.{scheme_parts}
use Rattle.hsm_rows.specs.Reading.{ReadText}
use Rattle.hsm_answers.specs.Keys.{field_text}

-- the hexadecimal digits of a component of the scheme, 16 a part
pub record IsComponentOf (scheme : Scheme) (text : List ℕ) : Type 0 where
  pub size : length text ≡ 16 * scheme_parts scheme
  pub digits : list_all is_ascii_hexdigit text ≡ true

-- the same, or nothing
abbrev pub MayBeComponentOf : Scheme → List ℕ → Type 0
MayBeComponentOf scheme text = (text ≡ []) ⊎ IsComponentOf scheme text

-- each of these fields has a component of the scheme or nothing
abbrev pub MayBeComponents : Scheme → ReadText → List ℕ → Type 0
MayBeComponents scheme r [] = Unit {0}
MayBeComponents scheme r (k ∷ ks) = MayBeComponentOf scheme (field_text r k) × MayBeComponents scheme r ks

-- the same, and the first of them has a component
abbrev pub AreComponents : Scheme → ReadText → List ℕ → Type 0
AreComponents scheme r [] = ⊥
AreComponents scheme r (k ∷ ks) = IsComponentOf scheme (field_text r k) × MayBeComponents scheme r ks
