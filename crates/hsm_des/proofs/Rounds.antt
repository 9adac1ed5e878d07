-- A round on words: a half in wide form, the merged tables, and the key's parts.
use Rattle.std.proofs.Common.{◌≡◌, ℕ, zero, suc, ◌+◌, ◌-◌, ◌*◌, ◌/◌, ◌%◌, ◌^◌, ◌<◌, ◌≤◌, Bool, List, [], ◌∷◌, ◌++◌, length, length-drop, map, reverse, take, drop, bit_and, bit_or, bit_xor, refl, sym, ap, ap₂, ◌∙◌, arith}
use lib.Bits.{xor_zero_l, xor_assoc, xor_comm, or_shifted_r}
use Rattle.std.proofs.lemmas.Nat.{or_shifted, and_mask, shr_high, mod_low, shl_whole}
use Rattle.std.proofs.Math.Seq.{take-append-add}
use Rattle.std.proofs.lemmas.List.{map-append, reverse-append}
use Rattle.hsm_des.specs.Bits.{bits, number, xor_bits, pick}
use Rattle.hsm_des.specs.Tables.{boxes, box_permutation, expansion, round_key_choice, left_shifts}
use Rattle.hsm_des.specs.Des.{substitute, turned, keys_from}
use Rattle.hsm_des.specs.Merged.{digit_alone, merged_entry}
use Rattle.hsm_des.specs.Words.{IsWide, half_of, half_places, wide_places, key_places, round_key, key_word, key_part, round_key_word, word_of, word_places}
use Rattle.hsm_des.proofs.BitsLemmas.{bits-xor, length-bits, length-pick}
use Rattle.hsm_des.proofs.WordLemmas.{joined_word, bits_mod, bits_cat, bits_number_at, take-bits, drop-bits, digits_so_far, digits_none, digits_more, digits_all, length-digits_so_far, length-digit_alone, number-pick-xor, pick-xor}
use Rattle.hsm_des.proofs.Linear.{IsLinear, linear_same, linear_shr, linear_shl, linear_and, linear_xor, linear_pick, linear_after, at_powers, linear_same_at_powers}

-- ---- a half in wide form

-- `half.rotate_right(1)`
right_turned : (n : ℕ) → n < 2 ^ 32 → bits 32 (bit_or (n / 2 ^ 1) (n * 2 ^ 31 % 2 ^ 32)) ≡ turned 31 (bits 32 n)
right_turned n small =
    let low : n * 2 ^ 31 % 2 ^ 32 ≡ n % 2 ^ 1 * 2 ^ 31 = omega arith in
    let high : n / 2 ^ 1 < 2 ^ 31 = omega arith in
    ap (λ k. bits 32 (bit_or (n / 2 ^ 1) k)) low
    ∙ ap (bits 32) (or_shifted_r (n % 2 ^ 1) 31 (n / 2 ^ 1) high)
    ∙ bits_cat 1 31 (n % 2 ^ 1) (n / 2 ^ 1) high
    ∙ ap₂ (λ (x y : List Bool). x ++ y) (bits_mod 1 n ∙ sym (drop-bits 31 1 n)) (sym (take-bits 31 1 n))

-- `half.rotate_left(3)`
left_turned : (n : ℕ) → n < 2 ^ 32 → bits 32 (bit_or (n * 2 ^ 3 % 2 ^ 32) (n / 2 ^ 29)) ≡ turned 3 (bits 32 n)
left_turned n small =
    let low : n * 2 ^ 3 % 2 ^ 32 ≡ n % 2 ^ 29 * 2 ^ 3 = omega arith in
    let high : n / 2 ^ 29 < 2 ^ 3 = omega arith in
    ap (λ k. bits 32 (bit_or k (n / 2 ^ 29))) low
    ∙ ap (bits 32) (or_shifted (n % 2 ^ 29) 3 (n / 2 ^ 29) high)
    ∙ bits_cat 29 3 (n % 2 ^ 29) (n / 2 ^ 29) high
    ∙ ap₂ (λ (x y : List Bool). x ++ y) (bits_mod 29 n ∙ sym (drop-bits 3 29 n)) (sym (take-bits 3 29 n))

-- `half.rotate_right(3)`
turned_back : (n : ℕ) → n < 2 ^ 32 → bits 32 (bit_or (n / 2 ^ 3) (n * 2 ^ 29 % 2 ^ 32)) ≡ turned 29 (bits 32 n)
turned_back n small =
    let low : n * 2 ^ 29 % 2 ^ 32 ≡ n % 2 ^ 3 * 2 ^ 29 = omega arith in
    let high : n / 2 ^ 3 < 2 ^ 29 = omega arith in
    ap (λ k. bits 32 (bit_or (n / 2 ^ 3) k)) low
    ∙ ap (bits 32) (or_shifted_r (n % 2 ^ 3) 29 (n / 2 ^ 3) high)
    ∙ bits_cat 3 29 (n % 2 ^ 3) (n / 2 ^ 3) high
    ∙ ap₂ (λ (x y : List Bool). x ++ y) (bits_mod 3 n ∙ sym (drop-bits 29 3 n)) (sym (take-bits 29 3 n))

places_widen : (n : ℕ) → turned 31 (bits 32 n) ++ turned 3 (bits 32 n) ≡ pick wide_places (bits 32 n)
unfolding bits wide_places
places_widen n = refl

-- the half turned right in the upper word, and turned left in the lower one
pub wide_word : (n right left : ℕ) → n < 2 ^ 32 → right < 2 ^ 32 → left < 2 ^ 32
    → right ≡ bit_or (n / 2 ^ 1) (n * 2 ^ 31 % 2 ^ 32) → left ≡ bit_or (n * 2 ^ 3 % 2 ^ 32) (n / 2 ^ 29)
    → bits 64 (bit_or (right * 2 ^ 32 % 2 ^ 64) left) ≡ pick wide_places (bits 32 n)
wide_word n right left small r l right_is left_is =
    joined_word right left r l
    ∙ ap₂ (λ (x y : List Bool). x ++ y)
    (ap (bits 32) right_is ∙ right_turned n small) (ap (bits 32) left_is ∙ left_turned n small)
    ∙ places_widen n

places_narrow : (n : ℕ) → turned 29 (drop 32 (bits 64 n)) ≡ half_of n
unfolding bits half_places
places_narrow n = refl

-- the lower word turned back
pub narrow_word : (n : ℕ) → bits 32 (bit_or (bit_and n 4294967295 / 2 ^ 3) (bit_and n 4294967295 * 2 ^ 29 % 2 ^ 32)) ≡ half_of n
narrow_word n =
    let low : bit_and n 4294967295 ≡ n % 2 ^ 32 = and_mask n 32 in
    turned_back (bit_and n 4294967295) (omega arith)
    ∙ ap (turned 29) (ap (bits 32) low ∙ bits_mod 32 n ∙ sym (drop-bits 32 32 n))
    ∙ places_narrow n

places_back : (n : ℕ) → pick half_places (pick wide_places (bits 32 n)) ≡ bits 32 n
unfolding bits half_places wide_places
places_back n = refl

-- a word holds the half whose wide form it is
pub half_held : (word : ℕ) (half : List Bool) → length half ≡ 32 → bits 64 word ≡ pick wide_places half → half_of word ≡ half
half_held word half len is =
    let back = bits_number_at 32 half len in
    ap (pick half_places) (is ∙ ap (pick wide_places) (sym back)) ∙ places_back (number half) ∙ back

pub is_wide : (word : ℕ) (half : List Bool) → length half ≡ 32 → bits 64 word ≡ pick wide_places half → IsWide word
is_wide word half len is = is ∙ ap (pick wide_places) (sym (half_held word half len is))

same_length : (table : List ℕ) (x y : List Bool) → length (pick table x) ≡ length (pick table y)
same_length table x y = length-pick table x ∙ sym (length-pick table y)

both64 : (m n : ℕ) → length (bits 64 m) ≡ length (bits 64 n)
both64 m n = length-bits 64 m ∙ sym (length-bits 64 n)

pub half_of-xor : (m n : ℕ) → half_of (bit_xor m n) ≡ xor_bits (half_of m) (half_of n)
half_of-xor m n = ap (pick half_places) (bits-xor 64 m n) ∙ pick-xor half_places (bits 64 m) (bits 64 n) (both64 m n)

pub wide-xor : (m n : ℕ) → IsWide m → IsWide n → IsWide (bit_xor m n)
wide-xor m n first second =
    bits-xor 64 m n ∙ ap₂ xor_bits first second
    ∙ sym (pick-xor wide_places (half_of m) (half_of n) (same_length half_places (bits 64 m) (bits 64 n)))
    ∙ ap (pick wide_places) (sym (half_of-xor m n))

-- in the wide form the sixes of E lie at the places of a round key's
places_expand : (n : ℕ) → pick key_places (pick wide_places (half_of n)) ≡ pick expansion (half_of n)
unfolding bits key_places wide_places half_places expansion
places_expand n = refl

-- the half expanded and the key mixed in
pub sixes_are : (half key : ℕ) → IsWide half → pick key_places (bits 64 (bit_xor half key)) ≡ xor_bits (pick expansion (half_of half)) (round_key key)
sixes_are half key wide =
    ap (pick key_places) (bits-xor 64 half key)
    ∙ pick-xor key_places (bits 64 half) (bits 64 key) (both64 half key)
    ∙ ap (λ (bs : List Bool). xor_bits bs (round_key key)) (ap (pick key_places) wide ∙ places_expand half)

-- ---- the merged tables

-- P of a list of bits, in wide form
abbrev mixed_of : List Bool → ℕ
mixed_of x = number (pick wide_places (pick box_permutation x))

mixed-xor : (x y : List Bool) → length x ≡ length y → mixed_of (xor_bits x y) ≡ bit_xor (mixed_of x) (mixed_of y)
mixed-xor x y same =
    ap (λ (bs : List Bool). number (pick wide_places bs)) (pick-xor box_permutation x y same)
    ∙ number-pick-xor wide_places (pick box_permutation x) (pick box_permutation y) (same_length box_permutation x y)

abbrev pub mixed_so_far : ℕ → List Bool → ℕ
mixed_so_far i x = number (pick wide_places (pick box_permutation (digits_so_far i x)))

pub mixed_none : (x : List Bool) → mixed_so_far 0 x ≡ 0
unfolding box_permutation wide_places
mixed_none x = ap mixed_of (digits_none x)

-- one more box
pub mixed_more : (i m n : ℕ) (x : List Bool) → i < 8 → m ≡ mixed_so_far i x → bits 6 n ≡ take 6 (drop (6 * i) x)
    → bit_xor m (merged_entry i n) ≡ mixed_so_far (i + 1) x
unfolding merged_entry
mixed_more i m n x there before six =
    let same : length (digits_so_far i x) ≡ length (digit_alone i (take 6 (drop (6 * i) x))) =
    length-digits_so_far i x (omega arith) ∙ sym (length-digit_alone i (take 6 (drop (6 * i) x)) there) in
    ap₂ bit_xor before (ap (λ (bs : List Bool). mixed_of (digit_alone i bs)) six)
    ∙ sym (ap mixed_of (digits_more i x there)
    ∙ mixed-xor (digits_so_far i x) (digit_alone i (take 6 (drop (6 * i) x))) same)

length-wide : (x : List Bool) → length (pick wide_places x) ≡ 64
unfolding wide_places
length-wide x = length-pick wide_places x

-- all eight: the wide form of P of the digits
pub mixed_all : (word : ℕ) (x : List Bool) → word ≡ mixed_so_far 8 x → bits 64 word ≡ pick wide_places (pick box_permutation (substitute boxes x))
mixed_all word x is =
    ap (bits 64) is ∙ bits_number_at 64 (pick wide_places (pick box_permutation (digits_so_far 8 x))) (length-wide (pick box_permutation (digits_so_far 8 x)))
    ∙ ap (λ (bs : List Bool). pick wide_places (pick box_permutation bs)) (digits_all x)

-- `word >> b & 63`, six bits of 64
six_in_word : (a b n : ℕ) → a + (6 + b) ≡ 64 → bits 6 (bit_and (n / 2 ^ b) 63) ≡ take 6 (drop a (bits 64 n))
six_in_word a b n sum =
    ap (bits 6) (and_mask (n / 2 ^ b) 6) ∙ bits_mod 6 (n / 2 ^ b)
    ∙ sym (ap (λ (w : ℕ). take 6 (drop a (bits w n))) (sym sum)
    ∙ ap (take 6) (drop-bits a (6 + b) n)
    ∙ take-bits 6 b n)

place0 : (n : ℕ) → take 6 (drop 0 (bits 64 n)) ≡ take 6 (drop 0 (pick key_places (bits 64 n)))
unfolding bits key_places
place0 n = refl

place1 : (n : ℕ) → take 6 (drop 32 (bits 64 n)) ≡ take 6 (drop 6 (pick key_places (bits 64 n)))
unfolding bits key_places
place1 n = refl

place2 : (n : ℕ) → take 6 (drop 8 (bits 64 n)) ≡ take 6 (drop 12 (pick key_places (bits 64 n)))
unfolding bits key_places
place2 n = refl

place3 : (n : ℕ) → take 6 (drop 40 (bits 64 n)) ≡ take 6 (drop 18 (pick key_places (bits 64 n)))
unfolding bits key_places
place3 n = refl

place4 : (n : ℕ) → take 6 (drop 16 (bits 64 n)) ≡ take 6 (drop 24 (pick key_places (bits 64 n)))
unfolding bits key_places
place4 n = refl

place5 : (n : ℕ) → take 6 (drop 48 (bits 64 n)) ≡ take 6 (drop 30 (pick key_places (bits 64 n)))
unfolding bits key_places
place5 n = refl

place6 : (n : ℕ) → take 6 (drop 24 (bits 64 n)) ≡ take 6 (drop 36 (pick key_places (bits 64 n)))
unfolding bits key_places
place6 n = refl

place7 : (n : ℕ) → take 6 (drop 56 (bits 64 n)) ≡ take 6 (drop 42 (pick key_places (bits 64 n)))
unfolding bits key_places
place7 n = refl

-- an operand in front goes on in front
in_front : (first m p q : ℕ) → m ≡ bit_xor first p → bit_xor m q ≡ bit_xor first (bit_xor p q)
in_front first m p q is = ap (λ (k : ℕ). bit_xor k q) is ∙ xor_assoc first p q

-- the eight look-ups in the word that holds the sixes, the last one first
unfoldable pub mixed : ℕ → ℕ
mixed n =
    bit_xor
    (bit_xor
    (bit_xor
    (bit_xor
    (bit_xor
    (bit_xor
    (bit_xor (merged_entry 7 (bit_and (n / 2 ^ 2) 63)) (merged_entry 0 (bit_and (n / 2 ^ 58) 63)))
    (merged_entry 1 (bit_and (n / 2 ^ 26) 63)))
    (merged_entry 2 (bit_and (n / 2 ^ 50) 63)))
    (merged_entry 3 (bit_and (n / 2 ^ 18) 63)))
    (merged_entry 4 (bit_and (n / 2 ^ 42) 63)))
    (merged_entry 5 (bit_and (n / 2 ^ 10) 63)))
    (merged_entry 6 (bit_and (n / 2 ^ 34) 63))

pub mixed-is : (n : ℕ) → mixed n ≡ mixed_so_far 8 (pick key_places (bits 64 n))
unfolding mixed
mixed-is n =
    let x = pick key_places (bits 64 n) in
    let last = merged_entry 7 (bit_and (n / 2 ^ 2) 63) in
    let m0 = sym (xor_zero_l _) ∙ mixed_more 0 0 (bit_and (n / 2 ^ 58) 63) x (omega arith) (sym (mixed_none x)) (six_in_word 0 58 n (omega arith) ∙ place0 n) in
    let m1 = mixed_more 1 _ (bit_and (n / 2 ^ 26) 63) x (omega arith) m0 (six_in_word 32 26 n (omega arith) ∙ place1 n) in
    let m2 = mixed_more 2 _ (bit_and (n / 2 ^ 50) 63) x (omega arith) m1 (six_in_word 8 50 n (omega arith) ∙ place2 n) in
    let m3 = mixed_more 3 _ (bit_and (n / 2 ^ 18) 63) x (omega arith) m2 (six_in_word 40 18 n (omega arith) ∙ place3 n) in
    let m4 = mixed_more 4 _ (bit_and (n / 2 ^ 42) 63) x (omega arith) m3 (six_in_word 16 42 n (omega arith) ∙ place4 n) in
    let m5 = mixed_more 5 _ (bit_and (n / 2 ^ 10) 63) x (omega arith) m4 (six_in_word 48 10 n (omega arith) ∙ place5 n) in
    let m6 = mixed_more 6 _ (bit_and (n / 2 ^ 34) 63) x (omega arith) m5 (six_in_word 24 34 n (omega arith) ∙ place6 n) in
    let m7 = mixed_more 7 _ (bit_and (n / 2 ^ 2) 63) x (omega arith) m6 (six_in_word 56 2 n (omega arith) ∙ place7 n) in
    let f1 = in_front last _ _ (merged_entry 1 (bit_and (n / 2 ^ 26) 63)) refl in
    let f2 = in_front last _ _ (merged_entry 2 (bit_and (n / 2 ^ 50) 63)) f1 in
    let f3 = in_front last _ _ (merged_entry 3 (bit_and (n / 2 ^ 18) 63)) f2 in
    let f4 = in_front last _ _ (merged_entry 4 (bit_and (n / 2 ^ 42) 63)) f3 in
    let f5 = in_front last _ _ (merged_entry 5 (bit_and (n / 2 ^ 10) 63)) f4 in
    let f6 = in_front last _ _ (merged_entry 6 (bit_and (n / 2 ^ 34) 63)) f5 in
    f6 ∙ xor_comm last _ ∙ m7

-- ---- the key's parts

linear_key_word : IsLinear key_word
unfolding key_word
linear_key_word = linear_pick round_key_word 56

abbrev left28 : ℕ → ℕ
left28 x = x / 2 ^ 28

abbrev right28 : ℕ → ℕ
right28 x = bit_and x 268435455

unfoldable pub parts_joined : ℕ → ℕ → ℕ
parts_joined c d =
    bit_xor
    (bit_xor
    (bit_xor
    (bit_xor
    (bit_xor
    (bit_xor
    (bit_xor (key_part 0 (c / 2 ^ 21)) (key_part 1 (bit_and (c / 2 ^ 14) 127)))
    (key_part 2 (bit_and (c / 2 ^ 7) 127)))
    (key_part 3 (bit_and c 127)))
    (key_part 4 (d / 2 ^ 21)))
    (key_part 5 (bit_and (d / 2 ^ 14) 127)))
    (key_part 6 (bit_and (d / 2 ^ 7) 127)))
    (key_part 7 (bit_and d 127))

linear_part : (j : ℕ) (f : ℕ → ℕ) → IsLinear f → IsLinear (λ x. key_part j (f x))
linear_part j f lin = linear_after (λ x. f x * 2 ^ (49 - 7 * j)) key_word (linear_shl f (49 - 7 * j) lin) linear_key_word

linear_joined : IsLinear (λ x. parts_joined (left28 x) (right28 x))
unfolding parts_joined
linear_joined =
    let c = linear_shr (λ x. x) 28 linear_same in
    let d = linear_and (λ x. x) 268435455 linear_same in
    linear_xor _ _
    (linear_xor _ _
    (linear_xor _ _
    (linear_xor _ _
    (linear_xor _ _
    (linear_xor _ _
    (linear_xor _ _
    (linear_part 0 (λ x. left28 x / 2 ^ 21) (linear_shr left28 21 c))
    (linear_part 1 (λ x. bit_and (left28 x / 2 ^ 14) 127) (linear_and _ 127 (linear_shr left28 14 c))))
    (linear_part 2 (λ x. bit_and (left28 x / 2 ^ 7) 127) (linear_and _ 127 (linear_shr left28 7 c))))
    (linear_part 3 (λ x. bit_and (left28 x) 127) (linear_and left28 127 c)))
    (linear_part 4 (λ x. right28 x / 2 ^ 21) (linear_shr right28 21 d)))
    (linear_part 5 (λ x. bit_and (right28 x / 2 ^ 14) 127) (linear_and _ 127 (linear_shr right28 14 d))))
    (linear_part 6 (λ x. bit_and (right28 x / 2 ^ 7) 127) (linear_and _ 127 (linear_shr right28 7 d))))
    (linear_part 7 (λ x. bit_and (right28 x) 127) (linear_and right28 127 d))

joined_powers : at_powers (λ x. parts_joined (left28 x) (right28 x)) 56 ≡ at_powers key_word 56
unfolding at_powers bits parts_joined key_word round_key_word
joined_powers = refl

joined-is : (x : ℕ) → x < 2 ^ 56 → parts_joined (left28 x) (right28 x) ≡ key_word x
joined-is = linear_same_at_powers _ key_word linear_joined linear_key_word 56 joined_powers

-- a word of round key holds PC-2
places_choose : (x : ℕ) → pick key_places (pick round_key_word (bits 56 x)) ≡ pick round_key_choice (bits 56 x)
unfolding bits key_places round_key_word round_key_choice
places_choose x = refl

length-round_key_word : (x : List Bool) → length (pick round_key_word x) ≡ 64
unfolding round_key_word
length-round_key_word x = length-pick round_key_word x

-- such a word has nothing else
places_held : (x : ℕ) → pick word_places (pick key_places (pick round_key_word (bits 56 x))) ≡ pick round_key_word (bits 56 x)
unfolding bits word_places key_places round_key_word
places_held x = refl

parts_are : (c d : ℕ) → c < 2 ^ 28 → d < 2 ^ 28 → parts_joined c d ≡ key_word (c * 2 ^ 28 + d)
parts_are c d cs ds =
    let x = c * 2 ^ 28 + d in
    let left : left28 x ≡ c = shr_high c 28 d ds in
    let right : right28 x ≡ d = and_mask x 28 ∙ mod_low c 28 d ds in
    ap₂ parts_joined (sym left) (sym right) ∙ joined-is x (omega arith)

round_key-word : (x : ℕ) → round_key (key_word x) ≡ pick key_places (pick round_key_word (bits 56 x))
unfolding key_word
round_key-word x = ap (pick key_places) (bits_number_at 64 (pick round_key_word (bits 56 x)) (length-round_key_word (bits 56 x)))

word_of-word : (x : ℕ) → word_of (round_key (key_word x)) ≡ key_word x
unfolding key_word
word_of-word x = ap word_of (round_key-word x) ∙ ap number (places_held x)

pub parts_joined-is : (c d : ℕ) → c < 2 ^ 28 → d < 2 ^ 28 → round_key (parts_joined c d) ≡ pick round_key_choice (bits 28 c ++ bits 28 d)
parts_joined-is c d cs ds =
    let x = c * 2 ^ 28 + d in
    ap round_key (parts_are c d cs ds)
    ∙ round_key-word x
    ∙ places_choose x
    ∙ ap (pick round_key_choice) (bits_cat 28 28 c d ds)

pub parts_joined-held : (c d : ℕ) → c < 2 ^ 28 → d < 2 ^ 28 → word_of (round_key (parts_joined c d)) ≡ parts_joined c d
parts_joined-held c d cs ds =
    let word = parts_are c d cs ds in
    ap (λ (n : ℕ). word_of (round_key n)) word ∙ word_of-word (c * 2 ^ 28 + d) ∙ sym word

-- ---- the schedule

drop_front : (n : ℕ) (x y : List Bool) → n ≤ length x → drop n (x ++ y) ≡ drop n x ++ y
drop_front zero x y h = refl
drop_front (suc n) [] y h = absurd (omega arith)
drop_front (suc n) (b ∷ x) y h = drop_front n x y (omega arith)

-- 28 of the 56 bits in which x stands twice over
turned_in_two : (n : ℕ) (x : List Bool) → length x ≡ 28 → n ≤ 28 → take 28 (drop n (x ++ x)) ≡ turned n x
turned_in_two n x len short =
    let within : n ≤ length x = omega arith in
    let back : length (drop n x) ≡ 28 - n = omega (arith, length-drop n x) in
    let more : 28 ≡ length (drop n x) + n = omega arith in
    ap (take 28) (drop_front n x x within)
    ∙ ap (λ (k : ℕ). take k (drop n x ++ x)) more
    ∙ take-append-add (drop n x) x n

-- `word >> (28 - n) & 0xFFF_FFFF`
pub part_of_two : (n w : ℕ) → n ≤ 28 → bits 28 (bit_and (w / 2 ^ (28 - n)) 268435455) ≡ take 28 (drop n (bits 56 w))
part_of_two n w short =
    let rest = 28 - n in
    let all : 56 ≡ n + (28 + rest) = omega arith in
    ap (bits 28) (and_mask (w / 2 ^ rest) 28) ∙ bits_mod 28 (w / 2 ^ rest)
    ∙ sym (ap (λ (k : ℕ). take 28 (drop n (bits k w))) all
    ∙ ap (take 28) (drop-bits n (28 + rest) w)
    ∙ take-bits 28 rest w)

-- `half << 28 | half`
pub twice_over : (half : ℕ) → half < 2 ^ 28 → bits 56 (bit_or (half * 2 ^ 28 % 2 ^ 64) half) ≡ bits 28 half ++ bits 28 half
twice_over half small =
    let whole : half * 2 ^ 28 % 2 ^ 64 ≡ half * 2 ^ 28 = shl_whole half 28 28 64 small (omega arith) in
    ap (λ (k : ℕ). bits 56 (bit_or k half)) whole ∙ ap (bits 56) (or_shifted half 28 half small) ∙ bits_cat 28 28 half half small

-- the round key of C and D turned n places
abbrev pub key_after : ℕ → ℕ → ℕ → List Bool
key_after c d n = pick round_key_choice (turned n (bits 28 c) ++ turned n (bits 28 d))

-- how far the halves have been turned by each round
unfoldable pub places_turned : List ℕ
places_turned = 1 ∷ 2 ∷ 4 ∷ 6 ∷ 8 ∷ 10 ∷ 12 ∷ 14 ∷ 15 ∷ 17 ∷ 19 ∷ 21 ∷ 23 ∷ 25 ∷ 27 ∷ 28 ∷ []

pub keys_after : (c d : ℕ) → map (key_after c d) places_turned ≡ keys_from left_shifts (bits 28 c) (bits 28 d)
unfolding bits places_turned left_shifts round_key_choice
keys_after c d = refl

pub round_key_turned : (c d word n : ℕ) → n ≤ 28 → (c₂ d₂ : ℕ) → bits 56 c₂ ≡ bits 28 c ++ bits 28 c → bits 56 d₂ ≡ bits 28 d ++ bits 28 d
    → round_key word ≡ pick round_key_choice (take 28 (drop n (bits 56 c₂)) ++ take 28 (drop n (bits 56 d₂)))
    → round_key word ≡ key_after c d n
round_key_turned c d word n short c₂ d₂ cs ds is =
    is
    ∙ ap₂ (λ (x y : List Bool). pick round_key_choice (take 28 (drop n x) ++ take 28 (drop n y))) cs ds
    ∙ ap₂ (λ (x y : List Bool). pick round_key_choice (x ++ y))
    (turned_in_two n (bits 28 c) (length-bits 28 c) short) (turned_in_two n (bits 28 d) (length-bits 28 d) short)

-- ---- the keys in reverse

reverse_cons : {A : Type 0} (x : A) (xs : List A) → reverse (x ∷ xs) ≡ reverse xs ++ x ∷ []
reverse_cons x xs = reverse-append (x ∷ []) xs

pub map_reverse : (f : ℕ → List Bool) (xs : List ℕ) → map f (reverse xs) ≡ reverse (map f xs)
map_reverse f [] = refl
map_reverse f (x ∷ xs) =
    ap (map f) (reverse_cons x xs) ∙ map-append f (reverse xs) (x ∷ [])
    ∙ ap (λ (ys : List (List Bool)). ys ++ f x ∷ []) (map_reverse f xs) ∙ sym (reverse_cons (f x) (map f xs))
