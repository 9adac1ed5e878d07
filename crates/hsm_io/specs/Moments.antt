-- The moments that a clock tells.
use Rattle.std.specs.Prelude.{ℕ, zero, suc, List, [], ◌∷◌}

-- the moment that the clock gives at its i-th call from now on: the i-th of the list, or the last where there are fewer
abbrev pub tick : List ℕ → ℕ → ℕ
tick [] i = 0
tick (m ∷ []) i = m
tick (m ∷ n ∷ ms) zero = m
tick (m ∷ n ∷ ms) (suc i) = tick (n ∷ ms) i

-- the moments to come after one call: the first goes, unless it is the only one
abbrev pub after_now : List ℕ → List ℕ
after_now [] = []
after_now (m ∷ []) = m ∷ []
after_now (m ∷ n ∷ ms) = n ∷ ms

-- the moments to come after so many calls
abbrev pub after_calls : ℕ → List ℕ → List ℕ
after_calls zero moments = moments
after_calls (suc n) moments = after_calls n (after_now moments)
