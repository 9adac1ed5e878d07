-- The gates that were asked for, one lane after another.
use Rattle.std.proofs.Common.{◌≡◌, ℕ, zero, suc, ◌+◌, List, [], ◌∷◌, ◌++◌, refl, sym, ap, subst, ◌∙◌, arith}
use Rattle.std.specs.List.{range_with_len}
use Rattle.hsm_program.specs.declared.lanes.LanesFault.{LanesFault}
use Rattle.hsm_program.specs.declared.lanes.LanesFault.TheVariants.{Memory, Door}
use Rattle.hsm_program.specs.Lanes.{AskGates, AsksGate}
use Rattle.hsm_program.specs.Serving.{AsksGatesOf}

-- no gate, as one may say of the first 0 lanes
append_none : (xs : List ℕ) → xs ++ [] ≡ xs
append_none [] = refl
append_none (x ∷ xs) = ap (λ (rest : List ℕ). x ∷ rest) (append_none xs)

pub no_gates : (gates gates_after : List ℕ) → gates_after ≡ gates → AsksGatesOf 0 gates gates_after
no_gates gates gates_after is = is ∙ sym (append_none gates)

-- one more gate
range_more : (first count : ℕ) → range_with_len first (suc count) ≡ range_with_len first count ++ (first + count) ∷ []
range_more first zero = ap (λ (n : ℕ). n ∷ []) (let e : first ≡ first + 0 = omega arith in e)
range_more first (suc count) =
    ap (λ (rest : List ℕ). first ∷ rest)
    (range_more (first + 1) count ∙ ap (λ (n : ℕ). range_with_len (first + 1) count ++ n ∷ []) (let e : (first + 1) + count ≡ first + suc count = omega arith in e))

range_next : (count : ℕ) → range_with_len 0 (count + 1) ≡ range_with_len 0 count ++ count ∷ []
range_next count =
    ap (λ (n : ℕ). range_with_len 0 n) (let e : count + 1 ≡ suc count = omega arith in e)
    ∙ range_more 0 count
    ∙ ap (λ (n : ℕ). range_with_len 0 count ++ n ∷ []) (let e : 0 + count ≡ count = omega arith in e)

append_twice : (xs ys zs : List ℕ) → (xs ++ ys) ++ zs ≡ xs ++ (ys ++ zs)
append_twice [] ys zs = refl
append_twice (x ∷ xs) ys zs = ap (λ (rest : List ℕ). x ∷ rest) (append_twice xs ys zs)

pub one_gate_more : (count : ℕ) (first gates gates_after : List ℕ) → AsksGatesOf count first gates → gates_after ≡ gates ++ count ∷ [] → AsksGatesOf (count + 1) first gates_after
one_gate_more count first gates gates_after asks more =
    more
    ∙ ap (λ (front : List ℕ). front ++ count ∷ []) asks
    ∙ append_twice first (range_with_len 0 count) (count ∷ [])
    ∙ ap (λ (back : List ℕ). first ++ back) (sym (range_next count))

-- a lane is refused, after the gates of those before it
pub gates_refused : (count : ℕ) (first gates gates_after : List ℕ) (fault : LanesFault) → AsksGatesOf count first gates → AsksGate count gates gates_after fault → AskGates first gates_after fault
gates_refused count first gates gates_after Memory asks refused = (count + 1, one_gate_more count first gates gates_after asks refused)
gates_refused count first gates gates_after (Door lane) asks refused =
    subst (λ (n : ℕ). AsksGatesOf n first gates_after) (sym refused.0) (refused.1 ∙ asks)
