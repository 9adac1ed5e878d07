-- Each host code has two bytes.
use Rattle.std.proofs.Common.{◌≡◌, ℕ, Bool, true, false, ◌&&◌, ◌==◌, List, [], ◌∷◌, length, None, refl, inl, inr, arith, ap, ◌∙◌}
use Rattle.std.specs.List.{list_all}
use Rattle.std.specs.Str.{bytes_eq}
use Rattle.std.proofs.lemmas.Bool.{cases_Bool}
use Rattle.std.proofs.lemmas.Bool.Decides.{nat_tests}
use Rattle.std.proofs.lemmas.Slice.Eq.{bytes_eq-Decides}
use Rattle.hsm_rows.specs.Table.{RowShape, row_with, host_rows}

abbrev has_short_code : RowShape → Bool
has_short_code row = length row.code == 2

host_codes_are_short : list_all has_short_code host_rows ≡ true
unfolding host_rows
host_codes_are_short = refl

both : (a b : Bool) → a && b ≡ true → (a ≡ true) × (b ≡ true)
both true true h = (refl, refl)
both true false h = absurd (cc h)
both false b h = absurd (cc h)

equal : (a b : ℕ) → (a == b) ≡ true → a ≡ b
equal a b h = grind (arith, nat_tests)

-- no row has a longer or a shorter code
none_among : (word : List ℕ) (rows : List RowShape) → list_all has_short_code rows ≡ true → (length word ≡ 2 → ⊥) → row_with word rows ≡ None
none_among word [] all long = refl
none_among word (row ∷ rows) all long =
    let parts = both (has_short_code row) (list_all has_short_code rows) all in
    elim (cases_Bool (bytes_eq word row.code)) [
      | inl same ↦ absurd (long (ap (λ (l : List ℕ). length l) ((bytes_eq-Decides word row.code).0 same) ∙ equal (length row.code) 2 parts.0))
      | inr other ↦ let rest = none_among word rows parts.1 long in cc
    ]

pub no_host_row : (word : List ℕ) → (length word ≡ 2 → ⊥) → row_with word host_rows ≡ None
no_host_row word long = none_among word host_rows host_codes_are_short long
