-- Laws of blocks of bytes.
use Rattle.std.proofs.Common.{◌≡◌, ℕ, zero, suc, ◌+◌, ◌-◌, ◌*◌, ◌/◌, ◌%◌, ◌≤◌, ◌∙◌, true, List, [], ◌∷◌, ◌++◌, length, take, drop, map, refl, sym, ap, arith, length-append, length-drop, length-take-le, take-append-drop, take_all}
use Rattle.std.specs.Int.{w64, to_be_bytes}
use Rattle.std.specs.List.{flat_map}
use Rattle.std.specs.Simd.{first_chunks}
use Rattle.std.proofs.lemmas.List.{take-append-le, drop-append-le}
use Rattle.std.proofs.lemmas.List.Concat.{flat_map-append}
use Rattle.std.proofs.lemmas.Bool.{eqb-true, eq-eqb}
use Rattle.hsm_blocks.specs.Blocks.{block_of_bytes, blocks_of, bytes_of, fills_blocks, joined, AllFillBlocks}

-- the first n blocks
abbrev pub first_blocks : ℕ → List ℕ → List ℕ
first_blocks n bytes = map block_of_bytes (first_chunks 8 n bytes)

pub first_blocks-append : (m n : ℕ) (xs ys : List ℕ) → 8 * m ≡ length xs → first_blocks (m + n) (xs ++ ys) ≡ first_blocks m xs ++ first_blocks n ys
first_blocks-append zero n [] ys h = let e : 0 + n ≡ n = omega arith in ap (λ (k : ℕ). first_blocks k ys) e
first_blocks-append zero n (x ∷ xs) ys h = absurd (omega arith)
first_blocks-append (suc m) n xs ys h =
    let e : suc m + n ≡ suc (m + n) = omega arith in
    let far : 8 ≤ length xs = omega arith in
    let left : 8 * m ≡ length (drop 8 xs) = omega (arith, length-drop 8 xs) in
    rw (e, take-append-le 8 xs ys far, drop-append-le 8 xs ys far, first_blocks-append m n (drop 8 xs) ys left) refl

-- only the whole blocks count
pub first_blocks-front : (n : ℕ) (xs ys : List ℕ) → 8 * n ≡ length xs → first_blocks n (xs ++ ys) ≡ first_blocks n xs
first_blocks-front zero xs ys h = refl
first_blocks-front (suc n) xs ys h =
    let far : 8 ≤ length xs = omega arith in
    let left : 8 * n ≡ length (drop 8 xs) = omega (arith, length-drop 8 xs) in
    rw (take-append-le 8 xs ys far, drop-append-le 8 xs ys far, first_blocks-front n (drop 8 xs) ys left) refl

pub whole_length : (xs : List ℕ) → fills_blocks xs ≡ true → length xs % 8 ≡ 0
whole_length xs h = eqb-true (length xs % 8) 0 h

-- blocks before and after a whole number of blocks
pub blocks_of-append : (xs ys : List ℕ) → fills_blocks xs ≡ true → blocks_of (xs ++ ys) ≡ blocks_of xs ++ blocks_of ys
unfolding blocks_of
blocks_of-append xs ys h =
    let e = whole_length xs h in
    let long = length-append xs ys in
    let count : length (xs ++ ys) / 8 ≡ length xs / 8 + length ys / 8 = omega arith in
    let size : 8 * (length xs / 8) ≡ length xs = omega arith in
    ap (λ (k : ℕ). first_blocks k (xs ++ ys)) count ∙ first_blocks-append (length xs / 8) (length ys / 8) xs ys size

pub blocks_of-nil : blocks_of [] ≡ []
unfolding blocks_of
blocks_of-nil = refl

pub blocks_of-one : (xs : List ℕ) → length xs ≡ 8 → blocks_of xs ≡ block_of_bytes xs ∷ []
unfolding blocks_of
blocks_of-one xs h =
    let count : length xs / 8 ≡ 1 = omega arith in
    let whole : take 8 xs ≡ xs = take_all 8 xs (omega arith) in
    ap (λ (k : ℕ). first_blocks k xs) count ∙ ap (λ (ys : List ℕ). block_of_bytes ys ∷ []) whole

-- the bytes of the whole blocks
abbrev pub whole_part : List ℕ → List ℕ
whole_part bytes = take (length bytes - length bytes % 8) bytes

abbrev pub rest_part : List ℕ → List ℕ
rest_part bytes = drop (length bytes - length bytes % 8) bytes

pub length-whole_part : (bytes : List ℕ) → length (whole_part bytes) ≡ length bytes - length bytes % 8
length-whole_part bytes = length-take-le (length bytes - length bytes % 8) bytes (omega arith)

pub blocks_of-whole : (bytes : List ℕ) → blocks_of bytes ≡ blocks_of (whole_part bytes)
unfolding blocks_of
blocks_of-whole bytes =
    let long = length-whole_part bytes in
    let count : length bytes / 8 ≡ length (whole_part bytes) / 8 = omega arith in
    let size : 8 * (length bytes / 8) ≡ length (whole_part bytes) = omega arith in
    ap (first_blocks (length bytes / 8)) (sym (take-append-drop (length bytes - length bytes % 8) bytes))
    ∙ first_blocks-front (length bytes / 8) (whole_part bytes) (rest_part bytes) size
    ∙ ap (λ (k : ℕ). first_blocks k (whole_part bytes)) count

pub fills_joined : (parts : List (List ℕ)) → AllFillBlocks parts → fills_blocks (joined parts) ≡ true
fills_joined [] h = refl
fills_joined (part ∷ parts) h =
    let here = whole_length part h.0 in
    let there = whole_length (joined parts) (fills_joined parts h.1) in
    let long = length-append part (joined parts) in
    eq-eqb (length (part ++ joined parts) % 8) 0 (omega arith)

-- ---- bytes of blocks

pub bytes_of-nil : bytes_of [] ≡ []
unfolding bytes_of
bytes_of-nil = refl

pub bytes_of-append : (xs ys : List ℕ) → bytes_of (xs ++ ys) ≡ bytes_of xs ++ bytes_of ys
unfolding bytes_of
bytes_of-append xs ys = flat_map-append (to_be_bytes w64) xs ys

-- ---- counts

chunk_count : (k : ℕ) (bytes : List ℕ) → length (map block_of_bytes (first_chunks 8 k bytes)) ≡ k
chunk_count zero bytes = refl
chunk_count (suc k) bytes = ap suc (chunk_count k (drop 8 bytes))

pub block_count : (bytes : List ℕ) → length (blocks_of bytes) ≡ length bytes / 8
unfolding blocks_of
block_count bytes = chunk_count (length bytes / 8) bytes

pub byte_count : (blocks : List ℕ) → length (bytes_of blocks) ≡ 8 * length blocks
unfolding bytes_of
byte_count [] = refl
byte_count (x ∷ xs) = let more : length (flat_map (to_be_bytes w64) xs) ≡ 8 * length xs = byte_count xs in omega (arith, length-append (to_be_bytes w64 x) (flat_map (to_be_bytes w64) xs))
