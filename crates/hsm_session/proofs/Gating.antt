-- The calls of a gate, around one batch of messages after another.
use Rattle.std.proofs.Common.{◌≡◌, ℕ, zero, suc, ◌+◌, ◌≤◌, List, [], ◌∷◌, ◌++◌, length, sum, Option, Some, refl, sym, ap, subst, ◌∙◌, append_assoc, append-nil, arith}
use Rattle.std.proofs.lemmas.List.Elements.{All-nil, All-push}
use Rattle.std.proofs.lemmas.List.Sums.{sum_by-append, sum_by-cons}
use Rattle.hsm_auth.specs.declared.entry.Entry.{Entry}
use Rattle.hsm_io.specs.Gates.{GateCall, before, after, batch_calls, calls_after, calls_before}
use Rattle.hsm_session.specs.Connections.{AreCallsFor, AskGate}

-- a call before one message more
pub before_push : (lane first count n : ℕ) → n ≡ first + count → calls_before lane first count ++ before lane n ∷ [] ≡ calls_before lane first (suc count)
before_push lane first zero n is = let e : n ≡ first = omega (arith, is) in rw e refl
before_push lane first (suc count) n is =
    let e : n ≡ (first + 1) + count = omega (arith, is) in
    ap (λ (rest : List GateCall). before lane first ∷ rest) (before_push lane (first + 1) count n e)

-- a call after one message more
pub after_push : (lane first count n : ℕ) → n ≡ first + count → calls_after lane first count ++ after lane n ∷ [] ≡ calls_after lane first (suc count)
after_push lane first zero n is = let e : n ≡ first = omega (arith, is) in rw e refl
after_push lane first (suc count) n is =
    let e : n ≡ (first + 1) + count = omega (arith, is) in
    ap (λ (rest : List GateCall). after lane first ∷ rest) (after_push lane (first + 1) count n e)

-- the calls around one batch
abbrev pub one_batch : ℕ → ℕ → ℕ → List GateCall
one_batch lane first size = calls_before lane first size ++ calls_after lane first size

-- the calls around one batch more
batch_push : (lane first at size : ℕ) (sizes : List ℕ) → at ≡ first + sum sizes → batch_calls lane first sizes ++ one_batch lane at size ≡ batch_calls lane first (sizes ++ size ∷ [])
batch_push lane first at size [] is =
    let e : at ≡ first = omega (arith, is) in
    ap (λ (n : ℕ). one_batch lane n size) e ∙ sym (append-nil (one_batch lane first size))
batch_push lane first at size (s ∷ sizes) is =
    let e : at ≡ (first + s) + sum sizes = omega (arith, is, sum_by-cons (λ (n : ℕ). n) s sizes) in
    append_assoc (one_batch lane first s) (batch_calls lane (first + s) sizes) (one_batch lane at size)
    ∙ ap (λ (rest : List GateCall). one_batch lane first s ++ rest) (batch_push lane (first + s) at size sizes e)

-- no message was booked yet
pub calls_none : (lane : ℕ) → AreCallsFor lane 0 []
calls_none lane = record { sizes = []; within = All-nil (λ (size : ℕ). (1 ≤ size) × (size ≤ 16)); total = refl; ordered = refl }

-- no entry was made yet
pub gate_none : (lane : ℕ) (calls : Option (List GateCall)) → AskGate lane calls calls []
gate_none lane calls c is = ([], calls_none lane, is ∙ ap (λ (cs : List GateCall). Some cs) (sym (append-nil c)))

-- the calls for one batch more, which may be empty
calls_more : (lane count first size : ℕ) (calls : List GateCall) → AreCallsFor lane count calls → first ≡ count → size ≤ 16 → AreCallsFor lane (count + size) (calls ++ one_batch lane first size)
calls_more lane count first zero calls are same few =
    let none : count ≡ count + 0 = omega arith in
    subst (λ (all : ℕ × List GateCall). AreCallsFor lane all.0 all.1) (λ i. (none i, sym (append-nil calls) i)) are
calls_more lane count first (suc n) calls are same few =
    let at : first ≡ 0 + sum are.sizes = omega (arith, are.total) in
    record {
      sizes = are.sizes ++ suc n ∷ [];
      within = All-push (λ (size : ℕ). (1 ≤ size) × (size ≤ 16)) are.sizes (suc n) are.within (omega arith, few);
      total = sum_by-append (λ (k : ℕ). k) are.sizes (suc n ∷ []) ∙ omega (arith, are.total);
      ordered = ap (λ (front : List GateCall). front ++ one_batch lane first (suc n)) are.ordered ∙ batch_push lane 0 first (suc n) are.sizes at;
    }

-- so many entries more, before and after which the gate was called
pub gate_more : (lane first size : ℕ) (start old new : Option (List GateCall)) (entries all : List (ℕ × Entry))
    → AskGate lane start old entries → first ≡ length entries → length all ≡ length entries + size → size ≤ 16
    → ((c : List GateCall) → old ≡ Some c → new ≡ Some ((c ++ calls_before lane first size) ++ calls_after lane first size))
    → AskGate lane start new all
gate_more lane first size start old new entries all asked counted more few told c is =
    let so_far = asked c is in (
      so_far.0 ++ one_batch lane first size,
      subst (λ (n : ℕ). AreCallsFor lane n (so_far.0 ++ one_batch lane first size)) (sym more) (calls_more lane (length entries) first size so_far.0 so_far.1 counted few),
      told _ so_far.2
          ∙ ap (λ (cs : List GateCall). Some cs)
          (append_assoc (c ++ so_far.0) (calls_before lane first size) (calls_after lane first size)
          ∙ append_assoc c so_far.0 (one_batch lane first size)),
    )
