-- A text that is a key sealed opens to that key.
use Rattle.std.proofs.Common.{◌≡◌, ℕ, zero, suc, ◌+◌, ◌-◌, ◌*◌, ◌<◌, ◌∙◌, List, [], ◌∷◌, length, get_or, take, drop, slice_get, Some, ◌++◌, refl, sym, ap, ap₂, arith, w64, drop-drop}
use Rattle.std.specs.Int.{from_be_bytes, to_be_bytes}
use Rattle.std.specs.List.{AllByRecursion}
use Rattle.std.proofs.lemmas.Nat.{be_bytes_8}
use Rattle.hsm_tdes.specs.Tdes.{IsPart, enciphered, deciphered}
use Rattle.hsm_tdes.proofs.TdesLaws.{deciphered-enciphered}
use Rattle.hsm_types.specs.Schemes.{scheme_parts}
use Rattle.hsm_types.specs.declared.types.Scheme.{Scheme}
use Rattle.hsm_lmk.specs.Sealing.{Sealed, under, block_at, block_of}
use Rattle.hsm_lmk.specs.Opened.{opened, opened_from, sealed_from}
use Rattle.hsm_lmk.proofs.SealingLaws.{block_of-lt, byte_at}

-- the bytes of a part's block are the part
part_bytes : (part : List ℕ) → IsPart part → to_be_bytes w64 (block_of part) ≡ part
unfolding block_of
part_bytes part is = be_bytes_8 part (from_be_bytes w64 part) is.length (λ i. byte_at part i is) refl

-- the blocks of a text after its first
pub next_block : (text : List ℕ) (j : ℕ) → block_at (drop 8 text) j ≡ block_at text (suc j)
unfolding block_at
next_block text j =
    let start : 8 + 8 * j ≡ 8 * suc j = omega arith in
    let size : 8 * j + 8 - 8 * j ≡ 8 * suc j + 8 - 8 * suc j = omega arith in
    ap (from_be_bytes w64)
    (ap (take (8 * j + 8 - 8 * j)) (drop-drop (8 * j) 8 text)
    ∙ ap₂ (λ (n m : ℕ). take n (drop m text)) size start)

-- the first block of a text
pub first_block : (text : List ℕ) → block_of (take 8 text) ≡ block_at text 0
unfolding block_at block_of
first_block text = refl

opened_parts : (w : List (List ℕ)) (s : Scheme) (i : ℕ) (key : List (List ℕ)) (text : List ℕ) → AllByRecursion IsPart key
    → ((j : ℕ) → j < length key → block_at text j ≡ enciphered (under w s (i + j)) (block_of (get_or key j [])))
    → opened_from w s i (length key) text ≡ key
opened_parts w s i [] text parts each = refl
opened_parts w s i (part ∷ key) text parts each =
    let at : i + 0 ≡ i = omega arith in
    let block : block_of (take 8 text) ≡ enciphered (under w s i) (block_of part) =
    first_block text ∙ (each 0 (omega arith) ∙ ap (λ (k : ℕ). enciphered (under w s k) (block_of part)) at) in
    let clear : deciphered (under w s i) (block_of (take 8 text)) ≡ block_of part =
    ap (deciphered (under w s i)) block ∙ deciphered-enciphered (under w s i) (block_of part) (block_of-lt part parts.0) in
    ap₂ (λ (p : List ℕ) (k : List (List ℕ)). p ∷ k)
    (ap (to_be_bytes w64) clear ∙ part_bytes part parts.0)
    (opened_parts w s (i + 1) key (drop 8 text) parts.1
    (λ j h.
    let next : i + suc j ≡ i + 1 + j = omega arith in
    next_block text j ∙ (each (suc j) (omega arith) ∙ ap (λ (k : ℕ). enciphered (under w s k) (block_of (get_or key j []))) next)))

pub opens_to_sealed : (w : List (List ℕ)) (s : Scheme) (key : List (List ℕ)) (text : List ℕ) → Sealed w s key text → opened w s text ≡ key
unfolding opened
opens_to_sealed w s key text is =
    ap (λ (n : ℕ). opened_from w s 0 n text) (sym is.parts)
    ∙ opened_parts w s 0 key text is.is_key.parts
    (λ j h. let below : j < scheme_parts s = omega (arith, is.parts) in let zero_plus : j ≡ 0 + j = omega arith in
    is.each j below ∙ ap (λ (k : ℕ). enciphered (under w s k) (block_of (get_or key j []))) zero_plus)

part_front : (key : List (List ℕ)) (i : ℕ) (part : List ℕ) → slice_get key i ≡ Some part → drop i key ≡ part ∷ drop (suc i) key
part_front [] i part e = cc
part_front (x ∷ key) zero part e = let same : x ≡ part = cc in ap (λ (p : List ℕ). p ∷ key) same
part_front (x ∷ key) (suc i) part e = part_front key i part e

-- one more part of a text
pub sealed_step : (w : List (List ℕ)) (s : Scheme) (i : ℕ) (key : List (List ℕ)) (part : List ℕ) → slice_get key i ≡ Some part
    → sealed_from w s i (drop i key) ≡ to_be_bytes w64 (enciphered (under w s i) (block_of part)) ++ sealed_from w s (i + 1) (drop (i + 1) key)
sealed_step w s i key part e =
    let next : suc i ≡ i + 1 = omega arith in
    ap (sealed_from w s i) (part_front key i part e ∙ ap (λ (n : ℕ). part ∷ drop n key) next)
