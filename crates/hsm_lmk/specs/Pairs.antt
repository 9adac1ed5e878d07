-- LMK sets as lists of pairs, each a key of two parts; several sets by their numbers.
use Rattle.std.specs.Prelude.{◌≡◌, ℕ, List, [], length, All, slice_index_or}
use Rattle.hsm_parity.specs.Parity.{IsOdd}

-- every byte of every part is odd
abbrev pub AllOdd : List (List ℕ) → Type 0
AllOdd key = All (λ part. All IsOdd part) key

-- twenty pairs of two parts with odd bytes
pub record IsLmkSet (set : List (List (List ℕ))) : Type 0 where
  pub twenty : length set ≡ 20
  pub parts : All (λ pair. length pair ≡ 2) set
  pub odd : All AllOdd set

-- pair k of the set
abbrev pub lmk_pair : List (List (List ℕ)) → ℕ → List (List ℕ)
lmk_pair set k = slice_index_or set k []

-- set n of the sets that are loaded; nothing where n isn't below their number
abbrev pub set_at : List (List (List (List ℕ))) → ℕ → List (List (List ℕ))
set_at sets n = slice_index_or sets n []
