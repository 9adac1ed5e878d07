-- Sums over a list as one member changes.
use Rattle.std.proofs.Common.{◌≡◌, ◌≢◌, ℕ, zero, suc, ◌+◌, ◌≤◌, List, [], ◌∷◌, ◌++◌, set, refl, sym, ap, arith}
use Rattle.std.specs.Prelude.{eqb}
use Rattle.std.proofs.lemmas.Bool.Decides.{nat_tests}
use mathlib.Core.Option.{some, some-injective, some-ne-none}
use lib.ListN.{get_elem?}
use Rattle.hsm_desk.specs.Totals.{total, one_if, between}

module _ {V : Type 0} (f : V → ℕ) where
  pub total_set : (views : List V) (id : ℕ) (v w : V) → get_elem? views id ≡ some v → total f (set views id w) + f v ≡ total f views + f w
  total_set [] id v w at = absurd (some-ne-none v (sym at))
  total_set (x ∷ xs) zero v w at = let e : f x ≡ f v = ap f (some-injective x v at) in omega arith
  total_set (x ∷ xs) (suc id) v w at = let r = total_set xs id v w at in omega arith

  pub total_push : (views : List V) (w : V) → total f (views ++ w ∷ []) ≡ total f views + f w
  total_push [] w = omega arith
  total_push (x ∷ xs) w = let r = total_push xs w in omega arith

  pub total_append : (xs ys : List V) → total f (xs ++ ys) ≡ total f xs + total f ys
  total_append [] ys = omega arith
  total_append (x ∷ xs) ys = let r = total_append xs ys in omega arith

  pub total_member : (views : List V) (id : ℕ) (v : V) → get_elem? views id ≡ some v → f v ≤ total f views
  total_member [] id v at = absurd (some-ne-none v (sym at))
  total_member (x ∷ xs) zero v at = let e : f x ≡ f v = ap f (some-injective x v at) in omega arith
  total_member (x ∷ xs) (suc id) v at = let r = total_member xs id v at in omega arith

  pub total_two : (views : List V) (i j : ℕ) (v w : V) → j ≢ i → get_elem? views i ≡ some v → get_elem? views j ≡ some w → f v + f w ≤ total f views
  total_two [] i j v w apart at at' = absurd (some-ne-none v (sym at))
  total_two (x ∷ xs) zero zero v w apart at at' = absurd (apart refl)
  total_two (x ∷ xs) zero (suc j) v w apart at at' = let e : f x ≡ f v = ap f (some-injective x v at) in let r = total_member xs j w at' in omega arith
  total_two (x ∷ xs) (suc i) zero v w apart at at' = let e : f x ≡ f w = ap f (some-injective x w at') in let r = total_member xs i v at in omega arith
  total_two (x ∷ xs) (suc i) (suc j) v w apart at at' = let r = total_two xs i j v w (λ e. apart (ap suc e)) at at' in omega arith

  pub total_none : (views : List V) → ((j : ℕ) (w : V) → get_elem? views j ≡ some w → f w ≡ 0) → total f views ≡ 0
  total_none [] none = refl
  total_none (x ∷ xs) none = let h = none zero x refl in let r = total_none xs (λ j w at. none (suc j) w at) in omega arith

pub total_le : {V : Type 0} (f g : V → ℕ) (views : List V) → ((j : ℕ) (w : V) → get_elem? views j ≡ some w → f w ≤ g w) → total f views ≤ total g views
total_le f g [] le = omega arith
total_le f g (x ∷ xs) le = let h = le zero x refl in let r = total_le f g xs (λ j w at. le (suc j) w at) in omega arith

pub between_more : (low n x : ℕ) → between low (low + n + 1) x ≡ between low (low + n) x + one_if (eqb (low + n) x)
between_more low n x = grind (arith, nat_tests)

pub between_less : (low n x : ℕ) → between (low + 1) (low + (n + 1)) x + one_if (eqb low x) ≡ between low (low + (n + 1)) x
between_less low n x = grind (arith, nat_tests)

pub between_one : (low high x : ℕ) → between low high x ≤ 1
between_one low high x = grind (arith, nat_tests)

pub one_same : (x : ℕ) → one_if (eqb x x) ≡ 1
one_same x = grind (arith, nat_tests)
