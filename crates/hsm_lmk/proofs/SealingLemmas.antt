-- Lemmas on sealing.
use Rattle.std.proofs.Common.{◌≡◌, ℕ, zero, suc, ◌+◌, ◌-◌, ◌*◌, ◌^◌, ◌<◌, ◌≤◌, ◌∙◌, List, [], ◌∷◌, ◌++◌, length, get_or, take, drop, slice_get, slice_range, slice_index, Some, refl, sym, ap, ap₂, arith, drop-drop, take_at, drop_at, length-append, length-drop, length-take, w64, take-take}
use Rattle.std.specs.Int.{to_be_bytes, from_be_bytes}
use Rattle.std.specs.List.{AllByRecursion}
use Rattle.std.proofs.lemmas.Nat.{from_be_bytes-to_be_bytes_8}
use Rattle.std.proofs.lemmas.Slice.{between_is, take-put_mid_below, between-put_mid}
use borrow.Rule.Slice.PartMut.{put_mid}
use Rattle.hsm_tdes.specs.Tdes.{IsPart, key_bytes}
use Rattle.hsm_types.specs.declared.types.Scheme.{Scheme}
use Rattle.hsm_lmk.specs.Sealing.{under, varied, varied_first, scheme_variants, block_at, block_of}

-- a key of two parts with a scheme variant
pub two_under : (w : List (List ℕ)) (s : Scheme) (i : ℕ) (a b c : List ℕ) (v : ℕ) → length w ≡ 2
    → slice_get w 0 ≡ Some a → slice_get w 1 ≡ Some b → v ≡ slice_index (scheme_variants s) i → c ≡ varied v b
    → a ∷ c ∷ [] ≡ under w s i
two_under [] s i a b c v len first second by change = absurd (omega arith)
two_under (x ∷ []) s i a b c v len first second by change = absurd (omega arith)
two_under (x ∷ y ∷ []) s i a b c v len first second by change =
    let same_a : a ≡ x = cc in
    let same_b : b ≡ y = cc in
    ap₂ (λ (p q : List ℕ). p ∷ q ∷ []) same_a (change ∙ ap₂ varied by same_b)
two_under (x ∷ y ∷ z ∷ more) s i a b c v len first second by change = absurd (omega arith)

-- a key of three parts with a scheme variant
pub three_under : (w : List (List ℕ)) (s : Scheme) (i : ℕ) (a b c d : List ℕ) (v : ℕ) → length w ≡ 3
    → slice_get w 0 ≡ Some a → slice_get w 1 ≡ Some b → slice_get w 2 ≡ Some d → v ≡ slice_index (scheme_variants s) i → c ≡ varied v b
    → a ∷ c ∷ d ∷ [] ≡ under w s i
three_under [] s i a b c d v len first second third by change = absurd (omega arith)
three_under (x ∷ []) s i a b c d v len first second third by change = absurd (omega arith)
three_under (x ∷ y ∷ []) s i a b c d v len first second third by change = absurd (omega arith)
three_under (x ∷ y ∷ z ∷ []) s i a b c d v len first second third by change =
    let same_a : a ≡ x = cc in
    let same_b : b ≡ y = cc in
    let same_d : d ≡ z = cc in
    ap₂ (λ (p q : List ℕ). p ∷ q ∷ d ∷ []) same_a (change ∙ ap₂ varied by same_b) ∙ ap (λ (r : List ℕ). x ∷ varied (slice_index (scheme_variants s) i) y ∷ r ∷ []) same_d
three_under (x ∷ y ∷ z ∷ u ∷ more) s i a b c d v len first second third by change = absurd (omega arith)

-- a pair with a variant on its first byte
pub pair_varied : (pair : List (List ℕ)) (v : ℕ) (a b c : List ℕ) → length pair ≡ 2
    → slice_get pair 0 ≡ Some a → slice_get pair 1 ≡ Some b → c ≡ varied v a → c ∷ b ∷ [] ≡ varied_first v pair
pair_varied [] v a b c len first second change = absurd (omega arith)
pair_varied (x ∷ []) v a b c len first second change = absurd (omega arith)
pair_varied (x ∷ y ∷ []) v a b c len first second change =
    let same_a : a ≡ x = cc in
    let same_b : b ≡ y = cc in
    ap₂ (λ (p q : List ℕ). p ∷ q ∷ []) (change ∙ ap (varied v) same_a) same_b
pair_varied (x ∷ y ∷ z ∷ more) v a b c len first second change = absurd (omega arith)

-- ---- blocks of a text

-- a block that was written
pub block_written : (text new : List ℕ) (i n : ℕ) → 8 * i + 8 ≤ length text → n < 2 ^ 64 → new ≡ to_be_bytes w64 n
    → block_at (put_mid (8 * i) (8 * i + 8 - 8 * i) text new) i ≡ n
unfolding block_at
block_written text new i n room small same =
    let len : length new ≡ 8 = ap length same in
    ap (from_be_bytes w64) (between-put_mid (8 * i) (8 * i + 8 - 8 * i) text new (8 * i + 8) (omega arith) (omega arith) ∙ same)
    ∙ from_be_bytes-to_be_bytes_8 n small

-- a text keeps its length
pub length-written : (text new : List ℕ) (i n : ℕ) → 8 * i + 8 ≤ length text → new ≡ to_be_bytes w64 n
    → length (put_mid (8 * i) (8 * i + 8 - 8 * i) text new) ≡ length text
length-written text new i n room same =
    let len : length new ≡ 8 = ap length same in
    simp (length-append, length-take, length-drop) (omega arith)

-- an earlier block stays
pub block_kept : (text new : List ℕ) (i k j : ℕ) → k < i → 8 * i ≤ length text
    → block_at (put_mid (8 * i) j text new) k ≡ block_at text k
unfolding block_at
block_kept text new i k j before room =
    let low : 8 * k + 8 ≤ 8 * i = omega arith in
    ap (from_be_bytes w64)
    (between_is (put_mid (8 * i) j text new) (8 * k) (8 * k + 8)
    ∙ ap (drop (8 * k)) (take-put_mid_below (8 * i) j text new (8 * k + 8) low room)
    ∙ sym (between_is text (8 * k) (8 * k + 8)))

-- part i of a key in its bytes
pub part_in_bytes : (key : List (List ℕ)) (i : ℕ) → AllByRecursion IsPart key → i < length key
    → slice_range (key_bytes key) (8 * i) (8 * i + 8) ≡ get_or key i []
part_in_bytes [] i parts h = absurd (omega arith)
part_in_bytes (part ∷ key) zero parts h = take_at part (key_bytes key) 8 parts.0.length
part_in_bytes (part ∷ key) (suc i) parts h =
    let start : 8 * suc i ≡ 8 + 8 * i = omega arith in
    let size : 8 * suc i + 8 - 8 * suc i ≡ 8 * i + 8 - 8 * i = omega arith in
    ap₂ (λ (n m : ℕ). take n (drop m (part ++ key_bytes key))) size start
    ∙ ap (take (8 * i + 8 - 8 * i)) (sym (drop-drop (8 * i) 8 (part ++ key_bytes key)) ∙ ap (drop (8 * i)) (drop_at part (key_bytes key) 8 parts.0.length))
    ∙ part_in_bytes key i parts.1 (omega arith)

-- a key has 8 bytes a part
pub length-key_bytes : (key : List (List ℕ)) → AllByRecursion IsPart key → length (key_bytes key) ≡ 8 * length key
length-key_bytes [] parts = refl
length-key_bytes (part ∷ key) parts =
    omega (arith, length-append part (key_bytes key), parts.0.length, length-key_bytes key parts.1)

-- part i of the key that the front of some bytes makes
pub part_of_front : (key : List (List ℕ)) (bytes : List ℕ) (n i : ℕ) → AllByRecursion IsPart key → i < length key
    → length key ≡ n → key_bytes key ≡ take (8 * n) bytes → block_at bytes i ≡ block_of (get_or key i [])
unfolding block_at block_of
part_of_front key bytes n i parts h count same =
    let within : 8 * i + 8 ≤ 8 * n = omega arith in
    ap (from_be_bytes w64)
    (between_is bytes (8 * i) (8 * i + 8)
    ∙ ap (drop (8 * i)) (sym (take-take (8 * i + 8) (8 * n) bytes within) ∙ ap (take (8 * i + 8)) (sym same))
    ∙ sym (between_is (key_bytes key) (8 * i) (8 * i + 8))
    ∙ part_in_bytes key i parts h)

-- ---- at most three blocks

pub three_blocks : (f : ℕ → ℕ) (n a b c : ℕ) → n < 4 → (0 < n → a ≡ f 0) → (1 < n → b ≡ f 1) → (2 < n → c ≡ f 2)
    → (i : ℕ) → i < n → slice_index (a ∷ b ∷ c ∷ []) i ≡ f i
three_blocks f n a b c few first second third zero h = first h
three_blocks f n a b c few first second third (suc zero) h = second h
three_blocks f n a b c few first second third (suc (suc zero)) h = third h
three_blocks f n a b c few first second third (suc (suc (suc i))) h = absurd (omega arith)
