-- Each entry of a history is among the own entries of its pass, once.
use Rattle.std.proofs.Common.{◌≡◌, ℕ, zero, suc, ◌+◌, ◌<◌, Bool, true, false, cond, List, [], ◌∷◌, length, filter, Some, slice_get, refl, sym, ap, ◌∙◌, subst, arith}
use Rattle.std.specs.Prelude.{◌==◌, nat_lt}
use Rattle.std.specs.List.{enumerate_from}
use Rattle.std.proofs.lemmas.Bool.Decides.{nat_tests}
use Rattle.hsm_auth.specs.declared.entry.Entry.{Entry}
use Rattle.hsm_auth.specs.Own.{is_own, own, own_total, MadeBelow}

-- the own entries of the entries es, the first of which has this place
abbrev own_from : ℕ → ℕ → List Entry → List (ℕ × Entry)
own_from n first es = filter (is_own n) (enumerate_from first es)

-- the entry stands at its place, and its pass made it
record Stands (n first : ℕ) (es : List Entry) (placed : ℕ × Entry) : Type 0 where
  at : ℕ
  place : placed.0 ≡ first + at
  there : slice_get es at ≡ Some placed.1
  own : placed.1.pass ≡ n

later : (n first : ℕ) (e : Entry) (es : List Entry) (placed : ℕ × Entry) → Stands n (first + 1) es placed → Stands n first (e ∷ es) placed
later n first e es placed s = record { at = suc s.at; place = (let p = s.place in omega arith); there = s.there; own = s.own }

equal : (n m : ℕ) → (n == m) ≡ true → n ≡ m
equal n m is = grind (arith, nat_tests)

pick : (n first : ℕ) (e : Entry) (es : List Entry) (placed : ℕ × Entry) (b : Bool) → (e.pass == n) ≡ b
    → ((j : ℕ) → slice_get (own_from n (first + 1) es) j ≡ Some placed → Stands n (first + 1) es placed)
    → (j : ℕ) → slice_get (cond b ((first, e) ∷ own_from n (first + 1) es) (own_from n (first + 1) es)) j ≡ Some placed → Stands n first (e ∷ es) placed
pick n first e es placed true is rest zero at =
    let head : ℕ × Entry = (first, e) in
    let same : head ≡ placed = cc (at) in
    record { at = 0; place = (let p = ap (λ (x : ℕ × Entry). x.0) same in omega arith); there = ap (λ (x : ℕ × Entry). Some x.1) same; own = ap (λ (x : ℕ × Entry). x.1.pass) (sym same) ∙ equal e.pass n is }
pick n first e es placed true is rest (suc j) at = later n first e es placed (rest j at)
pick n first e es placed false is rest j at = later n first e es placed (rest j at)

stands : (n first : ℕ) (es : List Entry) (placed : ℕ × Entry) (j : ℕ) → slice_get (own_from n first es) j ≡ Some placed → Stands n first es placed
stands n first [] placed j at = absurd (cc (at))
stands n first (e ∷ es) placed j at = pick n first e es placed (e.pass == n) refl (λ i there. stands n (first + 1) es placed i there) j at

-- each own entry stands at its place in the history, and was made by the pass of the number
pub own-there : (n : ℕ) (h : List Entry) (j place : ℕ) (e : Entry) → slice_get (own n h) j ≡ Some (place, e) → (slice_get h place ≡ Some e) × (e.pass ≡ n)
own-there n h j place e at =
    let s = stands n 0 h (place, e) j at in
    let same : s.at ≡ place = (let p = s.place in omega arith) in
    (subst (λ (k : ℕ). slice_get h k ≡ Some e) same s.there, s.own)

kept-later : {X : Type 0} (b : Bool) (y x : X) (ys : List X) (j : ℕ) → slice_get ys j ≡ Some x → (i : ℕ) × (slice_get (cond b (y ∷ ys) ys) i ≡ Some x)
kept-later true y x ys j at = (suc j, at)
kept-later false y x ys j at = (j, at)

is-same : (n m : ℕ) → n ≡ m → (n == m) ≡ true
is-same n m e = grind (arith, nat_tests)

listed : (n first : ℕ) (es : List Entry) (i : ℕ) (e : Entry) → slice_get es i ≡ Some e → e.pass ≡ n → (j : ℕ) × (slice_get (own_from n first es) j ≡ Some (first + i, e))
listed n first [] i e at own = absurd (cc (at))
listed n first (x ∷ es) zero e at own =
    let same : x ≡ e = cc (at) in
    let made : (x.pass == n) ≡ true = is-same x.pass n (ap (λ (y : Entry). y.pass) same ∙ own) in
    let whole : first ≡ first + 0 = omega arith in
    (0, ap (λ (b : Bool). slice_get (cond b ((first, x) ∷ own_from n (first + 1) es) (own_from n (first + 1) es)) 0) made ∙ (λ k. Some (whole k, same k)))
listed n first (x ∷ es) (suc i) e at own =
    let l = listed n (first + 1) es i e at own in
    let whole : (first + 1) + i ≡ first + suc i = omega arith in
    kept-later (x.pass == n) (first, x) (first + suc i, e) (own_from n (first + 1) es) l.0 (l.1 ∙ ap (λ (k : ℕ). Some (k, e)) whole)

-- each entry that the pass of the number made is among its own entries, with its place
pub own-every : (n : ℕ) (h : List Entry) (place : ℕ) (e : Entry) → slice_get h place ≡ Some e → e.pass ≡ n → (j : ℕ) × (slice_get (own n h) j ≡ Some (place, e))
own-every n h place e at own =
    let l = listed n 0 h place e at own in
    let whole : 0 + place ≡ place = omega arith in
    (l.0, l.1 ∙ ap (λ (k : ℕ). Some (k, e)) whole)

ascend-pick : (n first : ℕ) (e : Entry) (es : List Entry) (p q : ℕ × Entry) (b : Bool)
    → ((i j : ℕ) → i < j → slice_get (own_from n (first + 1) es) i ≡ Some p → slice_get (own_from n (first + 1) es) j ≡ Some q → p.0 < q.0)
    → (i j : ℕ) → i < j → slice_get (cond b ((first, e) ∷ own_from n (first + 1) es) (own_from n (first + 1) es)) i ≡ Some p
    → slice_get (cond b ((first, e) ∷ own_from n (first + 1) es) (own_from n (first + 1) es)) j ≡ Some q → p.0 < q.0
ascend-pick n first e es p q false rest i j less at at' = rest i j less at at'
ascend-pick n first e es p q true rest i zero less at at' = absurd (omega arith)
ascend-pick n first e es p q true rest zero (suc j) less at at' =
    let head : ℕ × Entry = (first, e) in
    let same : head ≡ p = cc (at) in
    let s = stands n (first + 1) es q j at' in
    let here = ap (λ (x : ℕ × Entry). x.0) same in
    let there = s.place in omega arith
ascend-pick n first e es p q true rest (suc i) (suc j) less at at' = rest i j (omega arith) at at'

ascend : (n first : ℕ) (es : List Entry) (p q : ℕ × Entry) (i j : ℕ) → i < j → slice_get (own_from n first es) i ≡ Some p → slice_get (own_from n first es) j ≡ Some q → p.0 < q.0
ascend n first [] p q i j less at at' = absurd (cc (at))
ascend n first (e ∷ es) p q i j less at at' = ascend-pick n first e es p q (e.pass == n) (λ k l lt there there'. ascend n (first + 1) es p q k l lt there there') i j less at at'

-- their places ascend
pub own-ascends : (n : ℕ) (h : List Entry) (i j : ℕ) (p q : ℕ × Entry) → i < j → slice_get (own n h) i ≡ Some p → slice_get (own n h) j ≡ Some q → p.0 < q.0
own-ascends n h i j p q less at at' = ascend n 0 h p q i j less at at'

-- the sum, where the first entry has this place
abbrev total_from : ℕ → ℕ → List Entry → ℕ
total_from zero first es = 0
total_from (suc k) first es = total_from k first es + length (own_from k first es)

abbrev one : Bool → ℕ
one b = cond b 1 0

counted : {X : Type 0} (b : Bool) (x : X) (xs : List X) → length (cond b (x ∷ xs) xs) ≡ length xs + one b
counted true x xs = let e : suc (length xs) ≡ length xs + 1 = omega arith in e
counted false x xs = let e : length xs ≡ length xs + 0 = omega arith in e

below-next : (m k : ℕ) → one (nat_lt m k) + one (m == k) ≡ one (nat_lt m (suc k))
below-next m k = grind (arith, nat_tests)

below-zero : (m : ℕ) → one (nat_lt m 0) ≡ 0
below-zero m = grind (arith, nat_tests)

below-some : (m k : ℕ) → m < k → one (nat_lt m k) ≡ 1
below-some m k less = grind (arith, nat_tests)

total-more : (k first : ℕ) (e : Entry) (es : List Entry) → total_from k first (e ∷ es) ≡ total_from k (first + 1) es + one (nat_lt e.pass k)
total-more zero first e es = let z = below-zero e.pass in omega arith
total-more (suc k) first e es =
    let r = total-more k first e es in
    let c = counted (e.pass == k) (first, e) (own_from k (first + 1) es) in
    let b = below-next e.pass k in omega arith

total-nothing : (k first : ℕ) → total_from k first [] ≡ 0
total-nothing zero first = refl
total-nothing (suc k) first = let r = total-nothing k first in omega arith

total-whole : (k first : ℕ) (es : List Entry) → MadeBelow k es → length es ≡ total_from k first es
total-whole k first [] below = sym (total-nothing k first)
total-whole k first (e ∷ es) below =
    let r = total-whole k (first + 1) es (λ i x at. below (suc i) x at) in
    let m = total-more k first e es in
    let o = below-some e.pass k (below zero e refl) in omega arith

total-is : (k : ℕ) (h : List Entry) → total_from k 0 h ≡ own_total k h
total-is zero h = refl
total-is (suc k) h = ap (λ (n : ℕ). n + length (own k h)) (total-is k h)

-- a history has as many entries as the passes of all its numbers made
pub own-all : (k : ℕ) (h : List Entry) → MadeBelow k h → length h ≡ own_total k h
own-all k h below = total-whole k 0 h below ∙ total-is k h
