-- Filters one after another, and the last items of a list.
use Rattle.std.proofs.Common.{◌≡◌, ℕ, ◌+◌, ◌-◌, Bool, true, false, cond, not, ◌&&◌, ◌||◌, List, [], ◌∷◌, ◌++◌, length, drop, filter, refl, sym, ap, ◌∙◌, arith, length-append, length-drop}
use Rattle.std.proofs.lemmas.List.{drop-append-le, drop-drop}
use Rattle.circular_buffer.specs.Buffer.{keep_last}

and-comm : (a b : Bool) → a && b ≡ b && a
and-comm true true = refl
and-comm true false = refl
and-comm false true = refl
and-comm false false = refl

not-or : (a b : Bool) → not (a || b) ≡ not a && not b
not-or true b = refl
not-or false b = refl

module _ {X : Type 0} where
  pub filter-same : (p q : X → Bool) → ((x : X) → p x ≡ q x) → (xs : List X) → filter p xs ≡ filter q xs
  filter-same p q same [] = refl
  filter-same p q same (x ∷ xs) = let rest = filter-same p q same xs in λ i. cond (same x i) (x ∷ rest i) (rest i)

  pub filter-true : (xs : List X) → filter (λ _. true) xs ≡ xs
  filter-true [] = refl
  filter-true (x ∷ xs) = ap (λ rest. x ∷ rest) (filter-true xs)

  pub filter-false : (xs : List X) → filter (λ _. false) xs ≡ []
  filter-false [] = refl
  filter-false (x ∷ xs) = filter-false xs

  filter-filter-cons : (p q : X → Bool) (x : X) (xs : List X) (c : Bool) → filter p (filter q xs) ≡ filter (λ y. q y && p y) xs
      → filter p (cond c (x ∷ filter q xs) (filter q xs)) ≡ cond (c && p x) (x ∷ filter (λ y. q y && p y) xs) (filter (λ y. q y && p y) xs)
  filter-filter-cons p q x xs true rest = ap (λ (ys : List X). cond (p x) (x ∷ ys) ys) rest
  filter-filter-cons p q x xs false rest = rest

  pub filter-filter : (p q : X → Bool) (xs : List X) → filter p (filter q xs) ≡ filter (λ y. q y && p y) xs
  filter-filter p q [] = refl
  filter-filter p q (x ∷ xs) = filter-filter-cons p q x xs (q x) (filter-filter p q xs)

  pub filter-comm : (p q : X → Bool) (xs : List X) → filter p (filter q xs) ≡ filter q (filter p xs)
  filter-comm p q xs = filter-filter p q xs ∙ (filter-same (λ y. q y && p y) (λ y. p y && q y) (λ y. and-comm (q y) (p y)) xs ∙ sym (filter-filter q p xs))

  pub filter-not-or : (p q : X → Bool) (xs : List X) → filter (λ y. not (p y || q y)) xs ≡ filter (λ y. not (q y)) (filter (λ y. not (p y)) xs)
  filter-not-or p q xs = filter-same (λ y. not (p y || q y)) (λ y. not (p y) && not (q y)) (λ y. not-or (p y) (q y)) xs ∙ sym (filter-filter (λ y. not (q y)) (λ y. not (p y)) xs)

  pub keep_last-push : (n : ℕ) (xs : List X) (y : X) → keep_last n (keep_last n xs ++ y ∷ []) ≡ keep_last n (xs ++ y ∷ [])
  keep_last-push n xs y =
      let j : ℕ = length xs - n in
      let zs : List X = xs ++ y ∷ [] in
      let long : length zs ≡ length xs + 1 = length-append xs (y ∷ []) in
      let front : drop j xs ++ y ∷ [] ≡ drop j zs = sym (drop-append-le j xs (y ∷ []) (omega arith)) in
      let left : length (drop j zs) ≡ length zs - j = length-drop j zs in
      let sum : j + (length (drop j zs) - n) ≡ length zs - n = omega arith in
      ap (keep_last n) front ∙ (drop-drop (length (drop j zs) - n) j zs ∙ ap (λ (k : ℕ). drop k zs) sum)
