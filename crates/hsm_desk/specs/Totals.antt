-- Sums over a list, and whether a number lies in a range.
use Rattle.std.specs.Prelude.{ℕ, ◌+◌, Bool, if◌then◌else◌, nat_le, nat_lt, List, [], ◌∷◌}

-- f of each, added up
abbrev pub total : {V : Type 0} → (V → ℕ) → List V → ℕ
total f [] = 0
total f (x ∷ xs) = f x + total f xs

-- 1 for true, 0 for false
abbrev pub one_if : Bool → ℕ
one_if b = if b then 1 else 0

-- 1 where the number is at least low and below high, and else 0
abbrev pub between : ℕ → ℕ → ℕ → ℕ
between low high x = if nat_le low x then one_if (nat_lt x high) else 0
