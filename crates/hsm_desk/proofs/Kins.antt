-- Pairs of a number and a step, cut in two.
use Rattle.std.proofs.Common.{◌≡◌, ◌≢◌, ◌⊎◌, ℕ, zero, suc, ◌+◌, ◌*◌, ◌/◌, ◌%◌, ◌^◌, ◌<◌, ◌≤◌, ◌-◌, List, [], ◌∷◌, Some, slice_get, refl, ap, sym, ◌∙◌, inl, inr, ⊎_elim, subst, arith, div-add-mod', mod-eq_of_lt, lt_of_not-le}
use Rattle.std.specs.Prelude.{eqb}
use mathlib.Core.Logic.{dite}
use native.Mathlib.Decide.{ℕ_discrete, dec_le}
use mathlib.Core.Option.{some}
use lib.ListN.{get_elem?}
use Rattle.std.proofs.lemmas.Bool.Decides.{nat_tests}
use Rattle.std.proofs.lemmas.Nat.{mod-mul-add, div-mul-add, mod_below, pow_pos, pow-add, pow_below, le-div}
use Rattle.std.proofs.Math.Nat.{mul_assoc, mul_comm}
use Rattle.std.proofs.Math.Pow.{pow_mono}
use Rattle.hsm_auth.specs.declared.entry.Entry.{Entry}
use Rattle.hsm_desk.specs.Totals.{total, one_if}
use Rattle.hsm_desk.proofs.Totals.{total_member, one_same}
use Rattle.hsm_desk.specs.Kin.{Spans, spanning, part, IsPair, IsKin, kept_kin, new_kin, first_pair, IsCons, Knows}

even : (x s q r m : ℕ) → q * s + r ≡ x → r < s → q ≡ m * 2 → x % (2 * s) ≡ r
even x s q r m is below e = let a : q * s ≡ m * (2 * s) = ap (λ (k : ℕ). k * s) e ∙ mul_assoc m 2 s in
    let b : x ≡ m * (2 * s) + r = sym is ∙ ap (λ (k : ℕ). k + r) a in ap (λ (k : ℕ). k % (2 * s)) b ∙ mod-mul-add m (2 * s) r (omega arith)

odd : (x s q r m : ℕ) → q * s + r ≡ x → r < s → q ≡ m * 2 + 1 → x % (2 * s) ≡ r + s
odd x s q r m is below e = let a : (m * 2 + 1) * s ≡ m * (2 * s) + s = mul_comm (m * 2 + 1) s ∙ (let h : s * (m * 2 + 1) ≡ s * (m * 2) + s = omega arith in h ∙ ap (λ (k : ℕ). k + s) (mul_comm s (m * 2) ∙ mul_assoc m 2 s)) in
    let c : q * s ≡ m * (2 * s) + s = ap (λ (k : ℕ). k * s) e ∙ a in
    let y : ℕ = m * (2 * s) in let z : ℕ = q * s in let c' : z ≡ y + s = c in let is' : z + r ≡ x = is in
    let b : x ≡ y + (r + s) = omega arith in ap (λ (k : ℕ). k % (2 * s)) b ∙ mod-mul-add m (2 * s) (r + s) (omega arith)

-- what a number leaves at twice the step
pub twice : (x s : ℕ) → 0 < s → (x % (2 * s) ≡ x % s) ⊎ (x % (2 * s) ≡ x % s + s)
twice x s pos = let q : ℕ = x / s in let below : x % s < s = mod_below x s pos in
    dite (ℕ_discrete (q % 2) 0)
    (λ e. inl (even x s q (x % s) (q / 2) (div-add-mod' x s) below (omega arith)))
    (λ ne. inr (odd x s q (x % s) (q / 2) (div-add-mod' x s) below (omega arith)))

pub split_spans : (x n s : ℕ) → n < s → one_if (eqb (x % (2 * s)) n) + one_if (eqb (x % (2 * s)) (n + s)) ≡ one_if (eqb (x % s) n)
split_spans x n s below = let r : ℕ = x % s in let r' : ℕ = x % (2 * s) in let small : r < s = mod_below x s (omega arith) in
    ⊎_elim (λ (e : r' ≡ r). one x n s r r' below small e) (λ (e : r' ≡ r + s). two x n s r r' below small e) (twice x s (omega arith))
  where
    one : (x n s r r' : ℕ) → n < s → r < s → r' ≡ r → one_if (eqb r' n) + one_if (eqb r' (n + s)) ≡ one_if (eqb r n)
    one x n s r r' below small e = grind (arith, nat_tests)

    two : (x n s r r' : ℕ) → n < s → r < s → r' ≡ r + s → one_if (eqb r' n) + one_if (eqb r' (n + s)) ≡ one_if (eqb r n)
    two x n s r r' below small e = grind (arith, nat_tests)

-- a pair's part is halved as its step is doubled
pub halves : (s k : ℕ) → s ≡ 2 ^ k → k ≤ 61 → 4611686018427387904 / s ≡ 4611686018427387904 / (2 * s) + 4611686018427387904 / (2 * s)
halves s k is small =
    let j : ℕ = 61 - k in let w : ℕ = 2 ^ j in
    let pos : 0 < s = subst (λ (z : ℕ). 0 < z) (sym is) (pow_pos k) in
    let sum : j + (1 + k) ≡ 62 = omega arith in
    let all : 4611686018427387904 ≡ w * (2 * s) = ap (λ (z : ℕ). 2 ^ z) (sym sum) ∙ (pow-add 2 j (1 + k) ∙ (ap (λ (z : ℕ). w * z) (pow-add 2 1 k) ∙ ap (λ (z : ℕ). w * (2 * z)) (sym is))) in
    let one : 4611686018427387904 / (2 * s) ≡ w = ap (λ (z : ℕ). z / (2 * s)) (all ∙ let h : w * (2 * s) ≡ w * (2 * s) + 0 = omega arith in h) ∙ div-mul-add w (2 * s) 0 (omega arith) in
    let both : 4611686018427387904 ≡ (w * 2) * s + 0 = all ∙ (sym (mul_assoc w 2 s) ∙ let h : (w * 2) * s ≡ (w * 2) * s + 0 = omega arith in h) in
    let two : 4611686018427387904 / s ≡ w * 2 = ap (λ (z : ℕ). z / s) both ∙ div-mul-add (w * 2) s 0 pos in
    omega arith

pub part_some : (p : ℕ × ℕ) → IsPair p → 1 ≤ part p
part_some p pair = let e : p.1 ≡ 2 ^ pair.power = pair.step in let pos : 0 < p.1 = subst (λ (z : ℕ). 0 < z) (sym e) (pow_pos pair.power) in
    let le : p.1 ≤ 4611686018427387904 = subst (λ (z : ℕ). z ≤ 4611686018427387904) (sym e) (pow_mono pair.small) in le-div 1 4611686018427387904 p.1 pos (omega arith)

power_room : (k s : ℕ) → s ≡ 2 ^ k → s ≤ 2 ^ 61 → k ≤ 61
power_room k s is le = elim (dec_le k 61) as (λ _. k ≤ 61) [ yes d ↦ d | no d ↦ absurd (let far : 2 ^ 61 < 2 ^ k = pow_below 61 k (lt_of_not-le d) in omega arith) ]

-- the pairs after a split
pub kept_pair : (p : ℕ × ℕ) → IsPair p → p.1 ≤ 2 ^ 61 → IsPair (p.0, 2 * p.1)
kept_pair p pair room = record { below = (let b = pair.below in omega arith); power = 1 + pair.power; small = (let h = power_room pair.power p.1 pair.step room in omega arith); step = ap (λ (z : ℕ). 2 * z) pair.step ∙ sym (pow-add 2 1 pair.power) }

pub new_pair : (p : ℕ × ℕ) → IsPair p → p.1 ≤ 2 ^ 61 → IsPair (p.0 + p.1, 2 * p.1)
new_pair p pair room = let k = kept_pair p pair room in record { below = (let b = pair.below in omega arith); power = k.power; small = k.small; step = k.step }

-- what the new pairs cover, the old one did
pub kept_spans : (p : ℕ × ℕ) (x : ℕ) → p.0 < p.1 → Spans (p.0, 2 * p.1) x → Spans p x
kept_spans p x below is = ⊎_elim (λ (e : x % (2 * p.1) ≡ x % p.1). sym e ∙ is) (λ (e : x % (2 * p.1) ≡ x % p.1 + p.1). absurd (let i : x % (2 * p.1) ≡ p.0 = is in omega arith)) (twice x p.1 (omega arith))

pub new_spans : (p : ℕ × ℕ) (x : ℕ) → p.0 < p.1 → Spans (p.0 + p.1, 2 * p.1) x → Spans p x × (x ≢ p.0)
new_spans p x below is = let i : x % (2 * p.1) ≡ p.0 + p.1 = is in let small : x % p.1 < p.1 = mod_below x p.1 (omega arith) in (
  ⊎_elim (λ (e : x % (2 * p.1) ≡ x % p.1). absurd (omega arith)) (λ (e : x % (2 * p.1) ≡ x % p.1 + p.1). let h : x % p.1 ≡ p.0 = omega arith in h) (twice x p.1 (omega arith)),
  λ e. let m : x % (2 * p.1) ≡ x = mod-eq_of_lt (omega arith) in absurd (omega arith),
)

-- the kin after a split, as a list
pub kept_counts : (x : ℕ) (kin : List (ℕ × ℕ)) → IsCons kin → IsKin kin → total (spanning x) (kept_kin kin) + total (spanning x) (new_kin kin) ≡ total (spanning x) kin
kept_counts x [] cons pairs = refl
kept_counts x (p ∷ ps) cons pairs = let h = split_spans x p.0 p.1 (pairs zero p refl).below in let a : ℕ = total (spanning x) ps in omega arith

pub kept_weight : (kin : List (ℕ × ℕ)) → IsKin kin → (first_pair kin).1 ≤ 2 ^ 61 → total part (kept_kin kin) + total part (new_kin kin) ≡ total part kin
kept_weight [] pairs room = refl
kept_weight (p ∷ ps) pairs room = let pair = pairs zero p refl in let h = halves p.1 pair.power pair.step (power_room pair.power p.1 pair.step room) in let a : ℕ = total part ps in omega arith

pub kept_are : (kin : List (ℕ × ℕ)) → IsKin kin → (first_pair kin).1 ≤ 2 ^ 61 → IsKin (kept_kin kin)
kept_are [] pairs room j p at = absurd (cc (at))
kept_are (q ∷ qs) pairs room zero p at = subst IsPair (cc (at)) (kept_pair q (pairs zero q refl) room)
kept_are (q ∷ qs) pairs room (suc j) p at = pairs (suc j) p at

pub new_are : (kin : List (ℕ × ℕ)) → IsKin kin → (first_pair kin).1 ≤ 2 ^ 61 → IsKin (new_kin kin)
new_are [] pairs room j p at = absurd (cc (at))
new_are (q ∷ qs) pairs room zero p at = subst IsPair (cc (at)) (new_pair q (pairs zero q refl) room)
new_are (q ∷ qs) pairs room (suc j) p at = absurd (cc (at))

-- what is known by a kin is known by what a split makes of it
pub kept_knows : (log seen : List Entry) (kin : List (ℕ × ℕ)) → IsKin kin → Knows log seen kin → Knows log seen (kept_kin kin)
kept_knows log seen [] pairs knows k e at j p is cover = absurd (cc (is))
kept_knows log seen (q ∷ qs) pairs knows k e at zero p is cover =
    let same : (q.0, 2 * q.1) ≡ p = cc (is) in
    let cover' : Spans (q.0, 2 * q.1) e.pass = subst (λ (z : ℕ × ℕ). Spans z e.pass) (sym same) cover in
    let told = knows k e at zero q refl (kept_spans q e.pass (pairs zero q refl).below cover') in
    (told.0 ∙ ap (λ (z : ℕ × ℕ). z.0) same, told.1)
kept_knows log seen (q ∷ qs) pairs knows k e at (suc j) p is cover = knows k e at (suc j) p is cover

pub new_knows : (log seen : List Entry) (kin : List (ℕ × ℕ)) → IsKin kin → Knows log seen kin → Knows log seen (new_kin kin)
new_knows log seen [] pairs knows k e at j p is cover = absurd (cc (is))
new_knows log seen (q ∷ qs) pairs knows k e at zero p is cover =
    let same : (q.0 + q.1, 2 * q.1) ≡ p = cc (is) in
    let cover' : Spans (q.0 + q.1, 2 * q.1) e.pass = subst (λ (z : ℕ × ℕ). Spans z e.pass) (sym same) cover in
    let old = new_spans q e.pass (pairs zero q refl).below cover' in
    absurd (old.1 ((knows k e at zero q refl old.0).0))
new_knows log seen (q ∷ qs) pairs knows k e at (suc j) p is cover = absurd (cc (is))

-- a member of a list by either way to look it up
pub elem_at : {A : Type 0} (xs : List A) (k : ℕ) (x : A) → slice_get xs k ≡ Some x → get_elem? xs k ≡ some x
elem_at [] k x at = absurd (cc (at))
elem_at (y ∷ ys) zero x at = ap some (cc (at))
elem_at (y ∷ ys) (suc k) x at = elem_at ys k x at

pub spanning_one : (p : ℕ × ℕ) (x : ℕ) → Spans p x → spanning x p ≡ 1
spanning_one p x is = ap (λ (z : ℕ). one_if (eqb z p.0)) is ∙ one_same p.0

-- a kin that covers a number counts it
pub counts : (kin : List (ℕ × ℕ)) (j : ℕ) (p : ℕ × ℕ) (x : ℕ) → slice_get kin j ≡ Some p → Spans p x → 1 ≤ total (spanning x) kin
counts kin j p x at is = let one = spanning_one p x is in let h = total_member (spanning x) kin j p (elem_at kin j p at) in omega arith

pub own_spans : (kin : List (ℕ × ℕ)) → IsCons kin → IsKin kin → Spans (first_pair kin) (first_pair kin).0
own_spans [] cons pairs = absurd (cc (cons.2))
own_spans (p ∷ ps) cons pairs = mod-eq_of_lt (pairs zero p refl).below

pub first_there : (kin : List (ℕ × ℕ)) → IsCons kin → slice_get kin 0 ≡ Some (first_pair kin)
first_there [] cons = absurd (cc (cons.2))
first_there (p ∷ ps) cons = refl

pub own_counts : (kin : List (ℕ × ℕ)) → IsCons kin → IsKin kin → 1 ≤ total (spanning (first_pair kin).0) kin
own_counts kin cons pairs = counts kin 0 (first_pair kin) (first_pair kin).0 (first_there kin cons) (own_spans kin cons pairs)

-- where a number is covered once, the pair that covers the kin's own number is the first
pub own_pair : (kin : List (ℕ × ℕ)) → IsCons kin → IsKin kin → total (spanning (first_pair kin).0) kin ≤ 1 → (j : ℕ) (p : ℕ × ℕ) → slice_get kin j ≡ Some p → Spans p (first_pair kin).0 → p ≡ first_pair kin
own_pair [] cons pairs once j p at is = absurd (cc (cons.2))
own_pair (q ∷ qs) cons pairs once zero p at is = cc (at)
own_pair (q ∷ qs) cons pairs once (suc j) p at is =
    let one = spanning_one q q.0 (own_spans (q ∷ qs) cons pairs) in
    let other = counts qs j p q.0 at is in
    absurd (let h : spanning q.0 q + total (spanning q.0) qs ≤ 1 = once in omega arith)

pub weighs : (kin : List (ℕ × ℕ)) → IsCons kin → IsKin kin → 1 ≤ total part kin
weighs [] cons pairs = absurd (cc (cons.2))
weighs (p ∷ ps) cons pairs = let h = part_some p (pairs zero p refl) in let a : ℕ = total part ps in omega arith
