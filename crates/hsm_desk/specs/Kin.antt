-- Pairs of a number and a step, and what a seat knows of the entries of other seats.
use Rattle.std.specs.Prelude.{◌≡◌, ℕ, ◌+◌, ◌*◌, ◌/◌, ◌%◌, ◌^◌, ◌<◌, ◌≤◌, ◌==◌, List, [], ◌∷◌, length, slice_get, Some}
use mathlib.Core.List.{IsPrefix}
use Rattle.hsm_auth.specs.declared.entry.Entry.{Entry}
use Rattle.hsm_auth.specs.History.{IsLegal}
use Rattle.hsm_desk.specs.declared.view.Known.{Known}
use Rattle.hsm_desk.specs.Totals.{one_if}

-- the pair spans the numbers that leave its number when divided by its step
abbrev pub Spans : ℕ × ℕ → ℕ → Type 0
Spans p x = x % p.1 ≡ p.0

-- some pair of the kin spans the number
abbrev pub IsSpanned : List (ℕ × ℕ) → ℕ → Type 0
IsSpanned kin x = (j : ℕ) × (p : ℕ × ℕ) × (slice_get kin j ≡ Some p) × Spans p x

-- no pair of the kin spans the number
abbrev pub IsUnspanned : List (ℕ × ℕ) → ℕ → Type 0
IsUnspanned kin x = (j : ℕ) (p : ℕ × ℕ) → slice_get kin j ≡ Some p → ¬ Spans p x

-- each pair of the kin that spans the number is of this sort
abbrev pub EachSpanning : List (ℕ × ℕ) → ℕ → (ℕ × ℕ → Type 0) → Type 0
EachSpanning kin x Such = (j : ℕ) (p : ℕ × ℕ) → slice_get kin j ≡ Some p → Spans p x → Such p

-- 1 where the pair spans the number, and else 0
abbrev pub spanning : ℕ → ℕ × ℕ → ℕ
spanning x p = one_if (x % p.1 == p.0)

-- a pair's part of all numbers, of 2 ^ 62
abbrev pub part : ℕ × ℕ → ℕ
part p = 2 ^ 62 / p.1

pub record IsPair (p : ℕ × ℕ) : Type 0 where
  pub below : p.0 < p.1
  pub power : ℕ
  pub small : power ≤ 62
  pub step : p.1 ≡ 2 ^ power

abbrev pub IsKin : List (ℕ × ℕ) → Type 0
IsKin kin = (j : ℕ) (p : ℕ × ℕ) → slice_get kin j ≡ Some p → IsPair p

abbrev pub IsCons : List (ℕ × ℕ) → Type 0
IsCons kin = (p : ℕ × ℕ) × (rest : List (ℕ × ℕ)) × (kin ≡ p ∷ rest)

-- the number and the step of its first pair
abbrev pub first_pair : List (ℕ × ℕ) → ℕ × ℕ
first_pair [] = (0, 0)
first_pair (p ∷ ps) = p

-- each entry of the log whose number a pair spans has the pair's own number, and was seen
abbrev pub Knows : List Entry → List Entry → List (ℕ × ℕ) → Type 0
Knows log seen kin = (k : ℕ) (e : Entry) → slice_get log k ≡ Some e → EachSpanning kin e.pass (λ p. (e.pass ≡ p.0) × (k < length seen))

-- each entry whose number a pair spans has the pair's own number
abbrev pub Owns : List Entry → List (ℕ × ℕ) → Type 0
Owns seen kin = (k : ℕ) (e : Entry) → slice_get seen k ≡ Some e → EachSpanning kin e.pass (λ p. e.pass ≡ p.0)

-- what holds of each pass
pub record IsSound (seen : List Entry) (kin : List (ℕ × ℕ)) : Type 0 where
  pub legal : IsLegal seen
  pub pairs : IsKin kin
  pub own : Owns seen kin
  pub first : IsCons kin
  pub few : length seen ≤ 2 ^ 62

-- the history went on, by entries whose numbers the kin does not span
pub record Grows (kin : List (ℕ × ℕ)) (was new : List Entry) : Type 0 where
  pub begins : IsPrefix was new
  pub apart : (k : ℕ) (e : Entry) → length was ≤ k → slice_get new k ≡ Some e → IsUnspanned kin e.pass

-- what is known is part of the log: its beginning, with all entries whose numbers the kin spans
pub record IsPartOf (log : List Entry) (known : Known) : Type 0 where
  pub begins : IsPrefix known.seen log
  pub knows : Knows log known.seen known.kin

-- what a seat has after a split, and what the new one has
abbrev pub kept_kin : List (ℕ × ℕ) → List (ℕ × ℕ)
kept_kin [] = []
kept_kin (p ∷ ps) = (p.0, 2 * p.1) ∷ ps

abbrev pub new_kin : List (ℕ × ℕ) → List (ℕ × ℕ)
new_kin [] = []
new_kin (p ∷ ps) = (p.0 + p.1, 2 * p.1) ∷ []
