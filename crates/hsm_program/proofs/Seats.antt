-- The passes of the lanes cover every number.
use Rattle.std.proofs.Common.{◌≡◌, ℕ, zero, suc, ◌+◌, ◌*◌, ◌%◌, ◌^◌, ◌<◌, ◌≤◌, nat_lt, List, [], ◌∷◌, ◌++◌, length, flat_map, slice_get, Some, refl, sym, ap, subst, ◌∙◌, inl, inr, arith}
use Rattle.std.proofs.lemmas.Bool.{cases_Bool}
use Rattle.std.proofs.lemmas.Bool.Decides.{nat_tests}
use Rattle.std.proofs.lemmas.Nat.{mod_below}
use Rattle.hsm_desk.proofs.Kins.{twice}
use Rattle.hsm_desk.specs.Passes.{PassView, IsWhole}
use Rattle.hsm_program.specs.Lanes.{IsSpan, step_of}

split_step : (span count k : ℕ) → k + span < count → step_of span count k ≡ 2 * span
split_step span count k less = grind (arith, nat_tests, less)

late_step : (span count k : ℕ) → span ≤ k → step_of span count k ≡ 2 * span
late_step span count k less = grind (arith, nat_tests, less)

whole_step : (span count k : ℕ) → count ≤ k + span → k < span → step_of span count k ≡ span
whole_step span count k most less = grind (arith, nat_tests, most, less)

-- the lane whose pass covers a number
record Covering (span count x : ℕ) : Type 0 where
  lane : ℕ
  there : lane < count
  covers : x % step_of span count lane ≡ lane

at_step : (x step k m : ℕ) → step ≡ m → x % m ≡ k → x % step ≡ k
at_step x step k m is left = ap (λ (n : ℕ). x % n) is ∙ left

-- some lane's pass covers each number
covered : (span count x : ℕ) → 0 < span → span ≤ count → Covering span count x
covered span count x some least =
    let rest : ℕ = x % span in
    let below : rest < span = mod_below x span some in
    elim (cases_Bool (nat_lt (rest + span) count)) [
      | inl less ↦ (let within : rest + span < count = grind (arith, nat_tests, less) in
          elim (twice x span some) [
            | inl first ↦ record { lane = rest; there = omega (arith, below, least); covers = at_step x _ rest (2 * span) (split_step span count rest within) first }
            | inr second ↦ record { lane = rest + span; there = within; covers = at_step x _ (rest + span) (2 * span) (late_step span count (rest + span) (omega arith)) second }
          ])
      | inr more ↦ (let past : count ≤ rest + span = grind (arith, nat_tests, more) in
          record { lane = rest; there = omega (arith, below, least); covers = at_step x _ rest span (whole_step span count rest past below) refl })
    ]

pow_some : (n : ℕ) → 0 < 2 ^ n
pow_some zero = omega arith
pow_some (suc n) = let h = pow_some n in omega (arith, h)

-- the pairs of lists of one pair each stand in a row
pub pairs_in_row : (passes : List PassView) (k : ℕ) (p : PassView) (pair : ℕ × ℕ)
    → ((i : ℕ) (q : PassView) → slice_get passes i ≡ Some q → (n : ℕ × ℕ) × (q.kin ≡ n ∷ []))
    → slice_get passes k ≡ Some p → p.kin ≡ pair ∷ [] → slice_get (flat_map (λ (q : PassView). q.kin) passes) k ≡ Some pair
pairs_in_row [] k p pair single at is = absurd (cc)
pairs_in_row (q ∷ passes) zero p pair single at is =
    let e : q ≡ p = cc in
    let kin : q.kin ≡ pair ∷ [] = ap (λ (r : PassView). r.kin) e ∙ is in
    ap (λ (front : List (ℕ × ℕ)). slice_get (front ++ flat_map (λ (r : PassView). r.kin) passes) 0) kin
pairs_in_row (q ∷ passes) (suc k) p pair single at is =
    let first = single 0 q refl in
    ap (λ (front : List (ℕ × ℕ)). slice_get (front ++ flat_map (λ (r : PassView). r.kin) passes) (suc k)) first.1
    ∙ pairs_in_row passes k p pair (λ i r there. single (suc i) r there) at is

-- the pairs of such lists, with their places
pub pair_of_row : (passes : List PassView) (k : ℕ) (pair : ℕ × ℕ)
    → ((i : ℕ) (q : PassView) → slice_get passes i ≡ Some q → (n : ℕ × ℕ) × (q.kin ≡ n ∷ []))
    → slice_get (flat_map (λ (q : PassView). q.kin) passes) k ≡ Some pair → (p : PassView) × (slice_get passes k ≡ Some p) × (p.kin ≡ pair ∷ [])
pair_of_row [] k pair single at = absurd (cc)
pair_of_row (q ∷ passes) zero pair single at =
    let first = single 0 q refl in
    let there : slice_get ((first.0 ∷ []) ++ flat_map (λ (r : PassView). r.kin) passes) 0 ≡ Some pair =
    ap (λ (front : List (ℕ × ℕ)). slice_get (front ++ flat_map (λ (r : PassView). r.kin) passes) 0) (sym first.1) ∙ at in
    let same : first.0 ≡ pair = cc in
    (q, refl, first.1 ∙ ap (λ (n : ℕ × ℕ). n ∷ []) same)
pair_of_row (q ∷ passes) (suc k) pair single at =
    let first = single 0 q refl in
    let there : slice_get ((first.0 ∷ []) ++ flat_map (λ (r : PassView). r.kin) passes) (suc k) ≡ Some pair =
    ap (λ (front : List (ℕ × ℕ)). slice_get (front ++ flat_map (λ (r : PassView). r.kin) passes) (suc k)) (sym first.1) ∙ at in
    pair_of_row passes k pair (λ i r at'. single (suc i) r at') there

-- a pass with the pairs of all lanes is whole
pub whole : (span : ℕ) (passes : List PassView) (pass : PassView) → IsSpan span (length passes)
    → ((k : ℕ) (p : PassView) → slice_get passes k ≡ Some p → p.kin ≡ (k, step_of span (length passes) k) ∷ [])
    → ((k : ℕ) → k < length passes → (p : PassView) × (slice_get passes k ≡ Some p))
    → pass.kin ≡ flat_map (λ (p : PassView). p.kin) passes → IsWhole pass
whole span passes pass is each there kin = λ x.
    let some : 0 < span = subst (λ (n : ℕ). 0 < n) (sym is.is) (pow_some is.power) in
    let c = covered span (length passes) x some is.least in
    let p = there c.lane c.there in
    let pair : ℕ × ℕ = (c.lane, step_of span (length passes) c.lane) in
    (c.lane, pair, ap (λ (k : List (ℕ × ℕ)). slice_get k c.lane) kin ∙ pairs_in_row passes c.lane p.0 pair (λ i q at. (_, each i q at)) p.1 (each c.lane p.0 p.1), c.covers)
