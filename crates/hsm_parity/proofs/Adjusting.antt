-- A part whose bytes are adjusted one after another.
use Rattle.std.proofs.Common.{◌≡◌, ◌≢◌, ℕ, ◌+◌, ◌<◌, ◌≤◌, ◌∙◌, All, List, length, get_or, set, map, sym, ap, arith, length-set, get_or-set_same, get_or-set_other, below_more, ext_get_or}
use Rattle.std.proofs.lemmas.List.{map-set, set-get_or, get_or-map, get_or_default, length-map}
use Rattle.hsm_parity.specs.Parity.{IsOdd, upper, adjusted_byte, adjusted}

-- the bytes below i are adjusted, and the others are as they were
pub record AdjustedBelow (part out : List ℕ) (i : ℕ) : Type 0 where
  pub size : length out ≡ length part
  pub value : (k : ℕ) → k < i → get_or out k 0 ≡ get_or (adjusted part) k 0
  pub odd : (k : ℕ) → k < i → IsOdd (get_or out k 0)
  pub rest : (k : ℕ) → i ≤ k → get_or out k 0 ≡ get_or part k 0
  pub same : map upper out ≡ map upper part

same_upper : (xs : List ℕ) (i byte : ℕ) → i < length xs → upper byte ≡ upper (get_or xs i 0) → map upper (set xs i byte) ≡ map upper xs
same_upper xs i byte there same =
    map-set upper xs i byte
    ∙ ap (λ (u : ℕ). set (map upper xs) i u) (same ∙ sym (get_or-map upper xs i 0 0 there))
    ∙ set-get_or (map upper xs) i 0

pub adjusted_more : {part out : List ℕ} {i : ℕ} → AdjustedBelow part out i → (byte : ℕ) → i < length part
    → byte ≡ adjusted_byte (get_or out i 0) → IsOdd byte → upper byte ≡ upper (get_or out i 0) → AdjustedBelow part (set out i byte) (i + 1)
adjusted_more {part} {out} {i} h byte lt value odd same =
    let size : length out ≡ length part = h.size in
    let there : i < length out = omega arith in
    record {
      size = length-set out i byte ∙ h.size;
      value = below_more _ _
          (λ k lower. let other : k ≢ i = omega arith in rw get_or-set_other (h.value k lower))
          (get_or-set_same out i byte 0 there ∙ value ∙ ap adjusted_byte (h.rest i (omega arith)) ∙ sym (get_or-map adjusted_byte part i 0 0 lt));
      odd = below_more _ _
          (λ k lower. let other : k ≢ i = omega arith in rw get_or-set_other (h.odd k lower))
          (rw (get_or-set_same out i byte 0 there) odd);
      rest = λ k higher. let other : k ≢ i = omega arith in rw get_or-set_other (h.rest k (omega arith));
      same = same_upper out i byte there same ∙ h.same;
    }

pub adjusted_all : {part out : List ℕ} {i : ℕ} → AdjustedBelow part out i → length part ≤ i → out ≡ adjusted part
adjusted_all {part} {out} {i} h past =
    let size : length out ≡ length part = h.size in
    ext_get_or 0 out (adjusted part) (size ∙ sym (length-map part adjusted_byte)) (λ k lt. h.value k (omega arith))

pub odd_all : {part out : List ℕ} {i : ℕ} → AdjustedBelow part out i → length part ≤ i → All IsOdd out
odd_all {part} {out} {i} h past =
    let size : length out ≡ length part = h.size in
    λ k d lt. rw (get_or_default out k d 0 lt) (h.odd k (omega arith))
