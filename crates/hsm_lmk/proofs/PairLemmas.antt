-- Lemmas on LMK sets.
use Rattle.std.proofs.Common.{◌≡◌, ℕ, List, inl, inr, arith}
use Rattle.std.proofs.lemmas.Bool.{cases_lt}
use Rattle.hsm_lmk.specs.Opening.{IsFirstEven, AllPairsOdd}

-- one pair at most is the first with an even byte
pub first_even_is_one : (pairs : List (List ℕ)) (j k : ℕ) → IsFirstEven pairs j → IsFirstEven pairs k → j ≡ k
first_even_is_one pairs j k one other = elim (cases_lt j k) [
  | inl less ↦ absurd (one.even (other.before j less))
  | inr least ↦ elim (cases_lt k j) [
    | inl less ↦ absurd (other.even (one.before k less))
    | inr most ↦ omega arith
  ]
]

-- no pair is the first with an even byte where all bytes are odd
pub first_even_is_none : (pairs : List (List ℕ)) (k : ℕ) → AllPairsOdd pairs → IsFirstEven pairs k → ⊥
first_even_is_none pairs k odd first = first.even (odd k first.within)
