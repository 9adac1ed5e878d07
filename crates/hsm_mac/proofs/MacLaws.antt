-- Laws of blocks of bytes and of MACs.
use Rattle.std.proofs.Common.{◌≡◌, ℕ, zero, suc, ◌+◌, ◌-◌, ◌*◌, ◌/◌, ◌%◌, ◌^◌, ◌<◌, ◌≤◌, ◌∙◌, true, false, List, [], ◌∷◌, ◌++◌, length, get_or, set, take, drop, map, replicate, bit_xor, refl, sym, ap, ap₂, arith, eqb, length-append, length-drop, length-take-le, take-append-drop, append_assoc}
use Rattle.std.specs.Int.{w64, to_be_bytes}
use Rattle.std.proofs.lemmas.List.{map_push, take_more, set_at, drop-replicate, length-replicate, take-append-le, drop-append-le, take_all}
use Rattle.std.proofs.lemmas.List.Sums.{fold_push, fold-append}
use Rattle.std.proofs.lemmas.Bool.{eqb-true, eqb-false, eq-eqb}
use Rattle.std.proofs.lemmas.Nat.{from_be_bytes-to_be_bytes_8}
use Rattle.hsm_tdes.specs.Tdes.{enciphered}
use Rattle.hsm_mac.specs.declared.Alg.{Alg}
use Rattle.hsm_mac.specs.declared.Pad.{Pad}
use Rattle.hsm_mac.specs.declared.Pad.TheVariants.{Bare, Zeros, Bit, Length}
use Rattle.std.specs.Simd.{first_chunks}
use Rattle.hsm_mac.specs.Macs.{block_of_bytes, blocks_of, zeros_after, zeros_added, padded, chained, block_key, closed, mac, fills_blocks, is_length}
use Rattle.hsm_mac.specs.States.{State, advanced}
use Rattle.hsm_mac.specs.Laws.{joined, AllFillBlocks, PartsJoin, MadeOfAllBlocks, MadeOfJoined}

-- ---- blocks

-- the first n blocks
abbrev pub first_blocks : ℕ → List ℕ → List ℕ
first_blocks n bytes = map block_of_bytes (first_chunks 8 n bytes)

pub first_blocks-append : (m n : ℕ) (xs ys : List ℕ) → 8 * m ≡ length xs → first_blocks (m + n) (xs ++ ys) ≡ first_blocks m xs ++ first_blocks n ys
first_blocks-append zero n [] ys h = let e : 0 + n ≡ n = omega arith in ap (λ (k : ℕ). first_blocks k ys) e
first_blocks-append zero n (x ∷ xs) ys h = absurd (omega arith)
first_blocks-append (suc m) n xs ys h =
    let e : suc m + n ≡ suc (m + n) = omega arith in
    let far : 8 ≤ length xs = omega arith in
    let left : 8 * m ≡ length (drop 8 xs) = omega (arith, length-drop 8 xs) in
    rw (e, take-append-le 8 xs ys far, drop-append-le 8 xs ys far, first_blocks-append m n (drop 8 xs) ys left) refl

-- only the whole blocks count
pub first_blocks-front : (n : ℕ) (xs ys : List ℕ) → 8 * n ≡ length xs → first_blocks n (xs ++ ys) ≡ first_blocks n xs
first_blocks-front zero xs ys h = refl
first_blocks-front (suc n) xs ys h =
    let far : 8 ≤ length xs = omega arith in
    let left : 8 * n ≡ length (drop 8 xs) = omega (arith, length-drop 8 xs) in
    rw (take-append-le 8 xs ys far, drop-append-le 8 xs ys far, first_blocks-front n (drop 8 xs) ys left) refl

whole_length : (xs : List ℕ) → fills_blocks xs ≡ true → length xs % 8 ≡ 0
whole_length xs h = eqb-true (length xs % 8) 0 h

-- blocks before and after a whole number of blocks
pub blocks_of-append : (xs ys : List ℕ) → fills_blocks xs ≡ true → blocks_of (xs ++ ys) ≡ blocks_of xs ++ blocks_of ys
unfolding blocks_of
blocks_of-append xs ys h =
    let e = whole_length xs h in
    let long = length-append xs ys in
    let count : length (xs ++ ys) / 8 ≡ length xs / 8 + length ys / 8 = omega arith in
    let size : 8 * (length xs / 8) ≡ length xs = omega arith in
    ap (λ (k : ℕ). first_blocks k (xs ++ ys)) count ∙ first_blocks-append (length xs / 8) (length ys / 8) xs ys size

pub blocks_of-one : (xs : List ℕ) → length xs ≡ 8 → blocks_of xs ≡ block_of_bytes xs ∷ []
unfolding blocks_of
blocks_of-one xs h =
    let count : length xs / 8 ≡ 1 = omega arith in
    let whole : take 8 xs ≡ xs = take_all 8 xs (omega arith) in
    ap (λ (k : ℕ). first_blocks k xs) count ∙ ap (λ (ys : List ℕ). block_of_bytes ys ∷ []) whole

-- the bytes of the whole blocks
abbrev pub whole_part : List ℕ → List ℕ
whole_part bytes = take (length bytes - length bytes % 8) bytes

abbrev pub rest_part : List ℕ → List ℕ
rest_part bytes = drop (length bytes - length bytes % 8) bytes

pub length-whole_part : (bytes : List ℕ) → length (whole_part bytes) ≡ length bytes - length bytes % 8
length-whole_part bytes = length-take-le (length bytes - length bytes % 8) bytes (omega arith)

pub blocks_of-whole : (bytes : List ℕ) → blocks_of bytes ≡ blocks_of (whole_part bytes)
unfolding blocks_of
blocks_of-whole bytes =
    let long = length-whole_part bytes in
    let count : length bytes / 8 ≡ length (whole_part bytes) / 8 = omega arith in
    let size : 8 * (length bytes / 8) ≡ length (whole_part bytes) = omega arith in
    ap (first_blocks (length bytes / 8)) (sym (take-append-drop (length bytes - length bytes % 8) bytes))
    ∙ first_blocks-front (length bytes / 8) (whole_part bytes) (rest_part bytes) size
    ∙ ap (λ (k : ℕ). first_blocks k (whole_part bytes)) count

-- ---- chaining

pub chained-append : (alg : Alg) (key : List (List ℕ)) (chain : ℕ) (xs ys : List ℕ)
    → chained alg key chain (xs ++ ys) ≡ chained alg key (chained alg key chain xs) ys
unfolding chained
chained-append alg key chain xs ys = fold-append (λ h b. enciphered (block_key alg key) (bit_xor h b)) chain xs ys

pub chained_push : (alg : Alg) (key : List (List ℕ)) (chain : ℕ) (xs : List ℕ) (b : ℕ)
    → chained alg key chain (xs ++ b ∷ []) ≡ enciphered (block_key alg key) (bit_xor (chained alg key chain xs) b)
unfolding chained
chained_push alg key chain xs b = fold_push (λ h b. enciphered (block_key alg key) (bit_xor h b)) chain xs b

pub chained-nil : (alg : Alg) (key : List (List ℕ)) (chain : ℕ) → chained alg key chain [] ≡ chain
unfolding chained
chained-nil alg key chain = refl

-- one block more of a list of blocks
pub chained_more : (alg : Alg) (key : List (List ℕ)) (chain value : ℕ) (bs : List (List ℕ)) (i b : ℕ) → i < length bs
    → value ≡ chained alg key chain (map block_of_bytes (take i bs)) → b ≡ block_of_bytes (get_or bs i [])
    → enciphered (block_key alg key) (bit_xor value b) ≡ chained alg key chain (map block_of_bytes (take (i + 1) bs))
chained_more alg key chain value bs i b h v e =
    ap₂ (λ (h b : ℕ). enciphered (block_key alg key) (bit_xor h b)) v e
    ∙ sym (chained_push alg key chain (map block_of_bytes (take i bs)) (block_of_bytes (get_or bs i [])))
    ∙ ap (chained alg key chain) (sym (map_push block_of_bytes (take i bs) (get_or bs i [])) ∙ ap (map block_of_bytes) (sym (take_more bs i [] h)))

-- ---- parts

two_parts : (alg : Alg) (key : List (List ℕ)) (chain : ℕ) (xs ys : List ℕ) → fills_blocks xs ≡ true
    → chained alg key (chained alg key chain (blocks_of xs)) (blocks_of ys) ≡ chained alg key chain (blocks_of (xs ++ ys))
two_parts alg key chain xs ys h =
    sym (chained-append alg key chain (blocks_of xs) (blocks_of ys)) ∙ ap (chained alg key chain) (sym (blocks_of-append xs ys h))

pub parts_join : PartsJoin
unfolding blocks_of chained
parts_join s [] h = refl
parts_join s (part ∷ parts) h =
    parts_join (advanced s part) parts h.1
    ∙ ap (λ (c : ℕ). let t : State = record { key = s.key; alg = s.alg; chain = c } in t) (two_parts s.alg s.key s.chain part (joined parts) h.0)

fills_joined : (parts : List (List ℕ)) → AllFillBlocks parts → fills_blocks (joined parts) ≡ true
fills_joined [] h = refl
fills_joined (part ∷ parts) h =
    let here = whole_length part h.0 in
    let there = whole_length (joined parts) (fills_joined parts h.1) in
    let long = length-append part (joined parts) in
    eq-eqb (length (part ++ joined parts) % 8) 0 (omega arith)

zeros-append : (front last : List ℕ) → fills_blocks front ≡ true → zeros_added (front ++ last) ≡ front ++ zeros_added last
zeros-append front last h =
    let e = whole_length front h in
    let long = length-append front last in
    let same : zeros_after (length (front ++ last)) ≡ zeros_after (length last) = omega arith in
    ap (λ (k : ℕ). (front ++ last) ++ replicate k 0) same ∙ append_assoc front last (replicate (zeros_after (length last)) 0)

-- padding the last part pads the message
pads_last_part : (pad : Pad) (front last : List ℕ) → fills_blocks front ≡ true → is_length pad ≡ false → padded pad (front ++ last) ≡ front ++ padded pad last
pads_last_part Bare front last h k = refl
pads_last_part Zeros front last h k = zeros-append front last h
pads_last_part Bit front last h k = ap zeros_added (append_assoc front last (0x80 ∷ [])) ∙ zeros-append front (last ++ 0x80 ∷ []) h
pads_last_part Length front last h k = cc

pub made_of_all_blocks : MadeOfAllBlocks
made_of_all_blocks key alg pad chain parts last h =
    let begun : State = record { key = key; alg = alg; chain = chain } in
    ap (λ (s : State). mac key alg s.chain (blocks_of (padded pad last))) (parts_join begun parts h)
    ∙ ap (closed alg key) (two_parts alg key chain (joined parts) (padded pad last) (fills_joined parts h))

pub made_of_joined : MadeOfJoined
made_of_joined key alg pad chain parts last h k =
    made_of_all_blocks key alg pad chain parts last h
    ∙ ap (λ (xs : List ℕ). mac key alg chain (blocks_of xs)) (sym (pads_last_part pad (joined parts) last (fills_joined parts h) k))

-- ---- the last block

rest_length : (bytes : List ℕ) → length (rest_part bytes) ≡ length bytes % 8
rest_length bytes = omega (arith, length-drop (length bytes - length bytes % 8) bytes)

fills_whole : (bytes : List ℕ) → fills_blocks (whole_part bytes) ≡ true
fills_whole bytes = let long = length-whole_part bytes in eq-eqb (length (whole_part bytes) % 8) 0 (omega arith)

-- the padded bytes are the whole blocks and one more
pub chained_last : (alg : Alg) (key : List (List ℕ)) (chain : ℕ) (bytes tail : List ℕ)
    → length (rest_part bytes ++ tail) ≡ 8
    → chained alg key chain (blocks_of (bytes ++ tail))
    ≡ enciphered (block_key alg key) (bit_xor (chained alg key chain (blocks_of bytes)) (block_of_bytes (rest_part bytes ++ tail)))
chained_last alg key chain bytes tail h =
    let split : bytes ++ tail ≡ whole_part bytes ++ (rest_part bytes ++ tail) =
    ap (λ (xs : List ℕ). xs ++ tail) (sym (take-append-drop (length bytes - length bytes % 8) bytes)) ∙ append_assoc (whole_part bytes) (rest_part bytes) tail in
    ap (λ (xs : List ℕ). chained alg key chain (blocks_of xs)) split
    ∙ ap (chained alg key chain) (blocks_of-append (whole_part bytes) (rest_part bytes ++ tail) (fills_whole bytes) ∙ ap (λ (bs : List ℕ). blocks_of (whole_part bytes) ++ bs) (blocks_of-one (rest_part bytes ++ tail) h))
    ∙ chained_push alg key chain (blocks_of (whole_part bytes)) (block_of_bytes (rest_part bytes ++ tail))
    ∙ ap (λ (bs : List ℕ). enciphered (block_key alg key) (bit_xor (chained alg key chain bs) (block_of_bytes (rest_part bytes ++ tail)))) (sym (blocks_of-whole bytes))

-- zeros after bytes that leave a rest
pub zeros_last : (alg : Alg) (key : List (List ℕ)) (chain : ℕ) (bytes piece : List ℕ) (whole last result : ℕ)
    → piece ≡ rest_part bytes → eqb (length piece) 0 ≡ false
    → whole ≡ chained alg key chain (blocks_of bytes)
    → last ≡ block_of_bytes (piece ++ replicate (8 - length piece) 0)
    → result ≡ enciphered (block_key alg key) (bit_xor whole last)
    → result ≡ chained alg key chain (blocks_of (zeros_added bytes))
zeros_last alg key chain bytes piece whole last result p some w l r =
    let long : length piece ≡ length bytes % 8 = ap length p ∙ rest_length bytes in
    let left : length piece ≡ 0 → ⊥ = eqb-false (length piece) 0 some in
    let count : 8 - length piece ≡ zeros_after (length bytes) = omega arith in
    let tail = replicate (zeros_after (length bytes)) 0 in
    let size : length (rest_part bytes ++ tail) ≡ 8 =
    omega (arith, length-append (rest_part bytes) tail, length-replicate {A = ℕ} (zeros_after (length bytes)) 0, rest_length bytes) in
    r
    ∙ ap₂ (λ (h b : ℕ). enciphered (block_key alg key) (bit_xor h b)) w
    (l ∙ ap₂ (λ (xs : List ℕ) (k : ℕ). block_of_bytes (xs ++ replicate k 0)) p count)
    ∙ sym (chained_last alg key chain bytes tail size)

-- the byte 80 and zeros after the rest
pub bit_last : (alg : Alg) (key : List (List ℕ)) (chain : ℕ) (bytes piece copy : List ℕ) (whole last result : ℕ)
    → piece ≡ rest_part bytes → copy ≡ piece
    → whole ≡ chained alg key chain (blocks_of bytes)
    → last ≡ block_of_bytes (set (copy ++ drop (length piece) (replicate 8 0)) (length piece) 0x80)
    → result ≡ enciphered (block_key alg key) (bit_xor whole last)
    → result ≡ chained alg key chain (blocks_of (zeros_added (bytes ++ 0x80 ∷ [])))
bit_last alg key chain bytes piece copy whole last result p q w l r =
    let long : length piece ≡ length bytes % 8 = ap length p ∙ rest_length bytes in
    let more = length-append bytes (0x80 ∷ []) in
    let z = zeros_after (length (bytes ++ 0x80 ∷ [])) in
    let count : 7 - length piece ≡ z = omega arith in
    let tail : List ℕ = 0x80 ∷ replicate z 0 in
    let size : length (rest_part bytes ++ tail) ≡ 8 =
    omega (arith, length-append (rest_part bytes) tail, length-replicate {A = ℕ} z 0, rest_length bytes) in
    let zeros : drop (length piece) (replicate 8 0) ≡ 0 ∷ replicate (7 - length piece) 0 =
    drop-replicate (length piece) 8 0 ∙ (let e : 8 - length piece ≡ suc (7 - length piece) = omega arith in ap (λ (k : ℕ). replicate k 0) e) in
    let written : set (copy ++ drop (length piece) (replicate 8 0)) (length piece) 0x80 ≡ rest_part bytes ++ tail =
    ap₂ (λ (xs ys : List ℕ). set (xs ++ ys) (length piece) 0x80) q zeros
    ∙ set_at piece 0 (replicate (7 - length piece) 0) 0x80 (length piece) refl
    ∙ ap₂ (λ (xs : List ℕ) (k : ℕ). xs ++ 0x80 ∷ replicate k 0) p count in
    r
    ∙ ap₂ (λ (h b : ℕ). enciphered (block_key alg key) (bit_xor h b)) w (l ∙ ap block_of_bytes written)
    ∙ sym (chained_last alg key chain bytes tail size)
    ∙ ap (λ (xs : List ℕ). chained alg key chain (blocks_of xs)) (sym (append_assoc bytes (0x80 ∷ []) (replicate z 0)))

chained-cons : (alg : Alg) (key : List (List ℕ)) (chain b : ℕ) (bs : List ℕ)
    → chained alg key chain (b ∷ bs) ≡ chained alg key (enciphered (block_key alg key) (bit_xor chain b)) bs
unfolding chained
chained-cons alg key chain b bs = refl

length_block : (n : ℕ) → n < 2 ^ 64 → block_of_bytes (to_be_bytes w64 n) ≡ n
unfolding block_of_bytes
length_block n h = from_be_bytes-to_be_bytes_8 n h

-- the block of the length, and then the bytes with zeros
pub length_first : (alg : Alg) (key : List (List ℕ)) (chain n first result : ℕ) (rest : List ℕ) → n < 2 ^ 64
    → first ≡ enciphered (block_key alg key) (bit_xor chain n)
    → result ≡ chained alg key first (blocks_of rest)
    → result ≡ chained alg key chain (blocks_of (to_be_bytes w64 n ++ rest))
length_first alg key chain n first result rest h f r =
    r ∙ ap (λ (k : ℕ). chained alg key k (blocks_of rest)) f
    ∙ sym (chained-cons alg key chain n (blocks_of rest))
    ∙ ap (λ (k : ℕ). chained alg key chain (k ∷ blocks_of rest)) (sym (length_block n h))
    ∙ ap (λ (bs : List ℕ). chained alg key chain (bs ++ blocks_of rest)) (sym (blocks_of-one (to_be_bytes w64 n) refl))
    ∙ ap (chained alg key chain) (sym (blocks_of-append (to_be_bytes w64 n) rest refl))
