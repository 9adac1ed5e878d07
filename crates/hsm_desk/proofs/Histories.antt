-- Beginnings of one list, and members at a place.
use Rattle.std.proofs.Common.{◌≡◌, ◌⊎◌, ℕ, zero, suc, ◌+◌, ◌≤◌, List, [], ◌∷◌, ◌++◌, length, Some, slice_get, refl, ap, sym, ◌∙◌, inl, inr, ⊎_elim, subst, arith, append_assoc, length-append}
use mathlib.Core.List.{IsPrefix}

module _ {A : Type 0} where
  pub prefix_self : (xs : List A) → IsPrefix xs xs
  prefix_self [] = ([], refl)
  prefix_self (x ∷ xs) = (let r = prefix_self xs in r.0, ap (λ ys. x ∷ ys) (prefix_self xs).1)

  pub prefix_push : (xs ys : List A) (y : A) → IsPrefix xs ys → IsPrefix xs (ys ++ y ∷ [])
  prefix_push xs ys y p = (p.0 ++ y ∷ [], sym (append_assoc xs p.0 (y ∷ [])) ∙ ap (λ w. w ++ y ∷ []) p.1)

  pub prefix_length : (xs ys : List A) → IsPrefix xs ys → length xs ≤ length ys
  prefix_length xs ys p = omega (arith, sym (ap length p.1) ∙ length-append xs p.0)

  pub prefix_get : (xs ys : List A) (k : ℕ) (x : A) → IsPrefix xs ys → slice_get xs k ≡ Some x → slice_get ys k ≡ Some x
  prefix_get [] ys k x p h = absurd cc
  prefix_get (y ∷ xs) [] k x p h = absurd (cc (p.1))
  prefix_get (y ∷ xs) (z ∷ ys) zero x p h = cc (p.1, h)
  prefix_get (y ∷ xs) (z ∷ ys) (suc k) x p h = prefix_get xs ys k x (p.0, cc (p.1)) h

  -- the member at a place of a longer list by one
  pub get_push : (xs : List A) (y x : A) (k : ℕ) → slice_get (xs ++ y ∷ []) k ≡ Some x → (slice_get xs k ≡ Some x) ⊎ ((k ≡ length xs) × (y ≡ x))
  get_push [] y x zero h = inr (refl, cc (h))
  get_push [] y x (suc k) h = absurd (cc (h))
  get_push (z ∷ xs) y x zero h = inl h
  get_push (z ∷ xs) y x (suc k) h = ⊎_elim (λ l. inl l) (λ r. inr (ap suc r.0, r.1)) (get_push xs y x k h)

  pub get_append : (xs ys : List A) (x : A) (k : ℕ) → slice_get (xs ++ ys) k ≡ Some x → (slice_get xs k ≡ Some x) ⊎ ((j : ℕ) × (slice_get ys j ≡ Some x))
  get_append [] ys x k h = inr (k, h)
  get_append (z ∷ xs) ys x zero h = inl h
  get_append (z ∷ xs) ys x (suc k) h = get_append xs ys x k h

  pub get_front : (xs ys : List A) (x : A) (k : ℕ) → slice_get xs k ≡ Some x → slice_get (xs ++ ys) k ≡ Some x
  get_front [] ys x k h = absurd (cc)
  get_front (z ∷ xs) ys x zero h = h
  get_front (z ∷ xs) ys x (suc k) h = get_front xs ys x k h

  pub get_back : (xs ys : List A) (x : A) (k : ℕ) → slice_get ys k ≡ Some x → slice_get (xs ++ ys) (length xs + k) ≡ Some x
  get_back [] ys x k h = subst (λ (n : ℕ). slice_get ys n ≡ Some x) (omega arith) h
  get_back (z ∷ xs) ys x k h = let e : suc (length xs + k) ≡ suc (length xs) + k = omega arith in subst (λ (n : ℕ). slice_get (z ∷ (xs ++ ys)) n ≡ Some x) e (get_back xs ys x k h)
