-- What passes from a list that is read by position, and fronts of lists.
use Rattle.std.proofs.Common.{◌≡◌, ◌+◌, ◌-◌, ◌≤◌, ℕ, List, ◌++◌, length, take, drop, min, Some, refl, sym, ◌∙◌, ap, ap₂, subst, drop-drop, ◌^◌, append_assoc, arith, inl, inr}
use Rattle.std.proofs.Math.Seq.{take-add, take-length}
use Rattle.std.proofs.lemmas.Simd.{chunk-drop}
use Rattle.std.proofs.lemmas.List.{length-take-le, take_all, take_rest}
use Rattle.std.proofs.lemmas.Bool.{cases_lt}
use Rattle.hsm_io.specs.Stream.{Stream, Passes}
use Rattle.hsm_io.specs.MemoryForms.{FileState, read_on, after_read}
use Rattle.hsm_io.specs.declared.source.Got.TheVariants.{Bytes}

-- n bytes pass from a place on
pub passes_at : (bytes part : List ℕ) (at n : ℕ) → part ≡ take n (drop at bytes)
    → Passes (record { was_read = take at bytes; left = drop at bytes }) (record { was_read = take (at + n) bytes; left = drop (at + n) bytes }) part
passes_at bytes part at n e = record {
  left = chunk-drop at n bytes ∙ ap (λ (p : List ℕ). p ++ drop (at + n) bytes) (sym e);
  was_read = take-add at n bytes ∙ ap (λ (p : List ℕ). take at bytes ++ p) (sym e);
}

-- bytes that pass from one stream pass from the same stream where it is told
pub passes_told : (before s t : Stream) (part : List ℕ) → Passes before t part → Some before ≡ Some s → (u : Stream) × (Some t ≡ Some u) × Passes s u part
passes_told before s t part p e = let same : before ≡ s = cc in (t, refl, subst (λ (x : Stream). Passes x t part) same p)

-- two parts pass, one after the other
pub passes_twice : (s t u : Stream) (a b : List ℕ) → Passes s t a → Passes t u b → Passes s u (a ++ b)
passes_twice s t u a b p q = record {
  left = p.left ∙ ap (λ (x : List ℕ). a ++ x) q.left ∙ sym (append_assoc a b u.left);
  was_read = q.was_read ∙ ap (λ (x : List ℕ). x ++ b) p.was_read ∙ append_assoc s.was_read a b;
}

-- the front of a list up to a bound or its end
pub take_min : (xs : List ℕ) (n : ℕ) → take (min (length xs) n) xs ≡ take n xs
take_min xs n = elim (cases_lt n (length xs)) [
  | inl lt ↦ ap (λ (k : ℕ). take k xs) (omega arith)
  | inr le ↦ ap (λ (k : ℕ). take k xs) (omega arith) ∙ take-length xs ∙ sym (take_all n xs le)
]

-- what stands in the front of the room is what comes next
pub front_is : (bytes shown new : List ℕ) (at n : ℕ) → shown ≡ bytes → n ≤ length (drop at bytes)
    → take (length (take n (take (length shown - at) (drop at shown)))) new ≡ take n (take (length shown - at) (drop at shown)) → take n new ≡ take n (drop at bytes)
front_is bytes shown new at n same fits front =
    let left : take (length shown - at) (drop at shown) ≡ drop at bytes = take_rest shown at ∙ ap (drop at) same in
    let told = rw left at front in
    subst (λ (k : ℕ). take k new ≡ take n (drop at bytes)) (length-take-le n (drop at bytes) fits) told

-- a file of which n more bytes were read
pub reads_after : (old : FileState) (bytes bad : List ℕ) (at n calls faults next : ℕ)
    → record { stream = record { was_read = take at bytes; left = drop at bytes }; bad_reads = bad; calls = calls; faults = faults } ≡ old → next ≡ min (calls + 1) (2 ^ 64 - 1)
    → record { stream = record { was_read = take (at + n) bytes; left = drop (at + n) bytes }; bad_reads = bad; calls = next; faults = faults } ≡ after_read old (Bytes n)
reads_after old bytes bad at n calls faults next was count =
    let new : FileState = record { stream = record { was_read = take (at + n) bytes; left = drop (at + n) bytes }; bad_reads = bad; calls = next; faults = faults } in
    let before : FileState = record { stream = record { was_read = take at bytes; left = drop at bytes }; bad_reads = bad; calls = calls; faults = faults } in
    let read : take (at + n) bytes ≡ take at bytes ++ take n (drop at bytes) = take-add at n bytes in
    let left : drop (at + n) bytes ≡ drop n (drop at bytes) = sym (drop-drop n at bytes) in
    let same : new ≡ after_read before (Bytes n) =
    ap₂ (λ (a b : List ℕ). record { stream = record { was_read = a; left = b }; bad_reads = bad; calls = next; faults = faults }) read left
    ∙ ap (λ (k : ℕ). record { stream = read_on n before.stream; bad_reads = bad; calls = k; faults = faults }) count in
    subst (λ (f : FileState). new ≡ after_read f (Bytes n)) was same
