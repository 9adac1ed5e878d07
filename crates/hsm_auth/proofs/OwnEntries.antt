-- What more entries add to the entries of one pass.
use Rattle.std.proofs.Common.{◌≡◌, ◌≢◌, ℕ, zero, suc, ◌+◌, Bool, true, false, cond, List, [], ◌∷◌, ◌++◌, length, filter, Some, slice_get, refl, ap, ◌∙◌, arith, append-nil}
use Rattle.std.specs.Prelude.{◌==◌}
use Rattle.std.specs.List.{enumerate_from}
use Rattle.std.proofs.lemmas.List.Elements.{filter-append}
use Rattle.std.proofs.lemmas.Bool.Decides.{nat_tests}
use Rattle.hsm_auth.specs.declared.entry.Entry.{Entry}
use Rattle.hsm_auth.specs.Own.{is_own, own}

enumerate_from-append : {X : Type 0} (n : ℕ) (xs ys : List X) → enumerate_from n (xs ++ ys) ≡ enumerate_from n xs ++ enumerate_from (n + length xs) ys
enumerate_from-append n [] ys = ap (λ (k : ℕ). enumerate_from k ys) (let e : n ≡ n + 0 = omega arith in e)
enumerate_from-append n (x ∷ xs) ys =
    let e : (n + 1) + length xs ≡ n + suc (length xs) = omega arith in
    ap (λ rest. (n, x) ∷ rest) (enumerate_from-append (n + 1) xs ys ∙ ap (λ (k : ℕ). enumerate_from (n + 1) xs ++ enumerate_from k ys) e)

pub own-append : (number : ℕ) (h more : List Entry) → own number (h ++ more) ≡ own number h ++ filter (is_own number) (enumerate_from (length h) more)
own-append number h more =
    let e : 0 + length h ≡ length h = omega arith in
    ap (filter (is_own number)) (enumerate_from-append 0 h more ∙ ap (λ (k : ℕ). enumerate_from 0 h ++ enumerate_from k more) e)
    ∙ filter-append (is_own number) (enumerate_from 0 h) (enumerate_from (length h) more)

same : (n m : ℕ) → n ≡ m → (n == m) ≡ true
same n m e = grind (arith, nat_tests)

apart : (n m : ℕ) → n ≢ m → (n == m) ≡ false
apart n m e = grind (arith, nat_tests)

none_from : (number first : ℕ) (more : List Entry) → ((k : ℕ) (e : Entry) → slice_get more k ≡ Some e → e.pass ≢ number) → filter (is_own number) (enumerate_from first more) ≡ []
none_from number first [] none = refl
none_from number first (e ∷ es) none =
    ap (λ (b : Bool). cond b ((first, e) ∷ filter (is_own number) (enumerate_from (first + 1) es)) (filter (is_own number) (enumerate_from (first + 1) es))) (apart e.pass number (none zero e refl))
    ∙ none_from number (first + 1) es (λ k x at. none (suc k) x at)

-- entries of other passes add nothing
pub own-others : (number : ℕ) (h more : List Entry) → ((k : ℕ) (e : Entry) → slice_get more k ≡ Some e → e.pass ≢ number) → own number (h ++ more) ≡ own number h
own-others number h more none = own-append number h more ∙ (ap (λ rest. own number h ++ rest) (none_from number (length h) more none) ∙ append-nil (own number h))

-- an entry of the pass stands at the end, with its place
pub own-push : (number : ℕ) (h : List Entry) (e : Entry) → e.pass ≡ number → own number (h ++ e ∷ []) ≡ own number h ++ (length h, e) ∷ []
own-push number h e is = own-append number h (e ∷ []) ∙ ap (λ (b : Bool). own number h ++ cond b ((length h, e) ∷ []) []) (same e.pass number is)
