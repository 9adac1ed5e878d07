-- A legal history goes on with an entry that may follow it.
use Rattle.std.proofs.Common.{◌≡◌, ◌⊎◌, ℕ, zero, suc, ◌≤◌, List, [], ◌∷◌, ◌++◌, length, take, Some, slice_get, refl, ap, sym, ◌∙◌, inl, inr, ⊎_elim, subst, arith}
use Rattle.std.proofs.lemmas.Option.{slice_get_within}
use Rattle.hsm_auth.specs.declared.entry.Entry.{Entry}
use Rattle.hsm_auth.specs.History.{IsLegal, IsLegalEntry}

module _ {A : Type 0} where
  -- the member at a place of a list that is longer by one
  pub slice_get-push : (xs : List A) (y x : A) (k : ℕ) → slice_get (xs ++ y ∷ []) k ≡ Some x → (slice_get xs k ≡ Some x) ⊎ ((k ≡ length xs) × (y ≡ x))
  slice_get-push [] y x zero h = inr (refl, cc (h))
  slice_get-push [] y x (suc k) h = absurd (cc (h))
  slice_get-push (z ∷ xs) y x zero h = inl h
  slice_get-push (z ∷ xs) y x (suc k) h = ⊎_elim (λ l. inl l) (λ r. inr (ap suc r.0, r.1)) (slice_get-push xs y x k h)

  take-within : (xs ys : List A) (k : ℕ) → k ≤ length xs → take k (xs ++ ys) ≡ take k xs
  take-within xs ys zero le = refl
  take-within [] ys (suc k) le = absurd (omega arith)
  take-within (x ∷ xs) ys (suc k) le = ap (λ l. x ∷ l) (take-within xs ys k (omega arith))

  take-whole : (xs : List A) (k : ℕ) → length xs ≡ k → take k xs ≡ xs
  take-whole [] zero e = refl
  take-whole [] (suc k) e = refl
  take-whole (x ∷ xs) zero e = absurd (omega arith)
  take-whole (x ∷ xs) (suc k) e = ap (λ l. x ∷ l) (take-whole xs k (omega arith))

pub legal-push : (h : List Entry) (e : Entry) → IsLegal h → IsLegalEntry h e → IsLegal (h ++ e ∷ [])
legal-push h e legal may i x at = ⊎_elim
    (λ (l : slice_get h i ≡ Some x). subst (λ (t : List Entry). IsLegalEntry t x) (sym (take-within h (e ∷ []) i (let b = slice_get_within h i x l in omega arith))) (legal i x l))
    (λ (r : (i ≡ length h) × (e ≡ x)). subst (λ (t : List Entry). IsLegalEntry t x) (sym (take-within h (e ∷ []) i (let b = r.0 in omega arith) ∙ take-whole h i (sym r.0))) (subst (IsLegalEntry h) r.1 may))
    (slice_get-push h e x i at)
