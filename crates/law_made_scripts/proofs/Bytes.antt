-- The bytes of frames and their hexadecimal digits.
use Rattle.std.proofs.Common.{◌≡◌, ℕ, zero, suc, ◌+◌, ◌/◌, ◌%◌, ◌<◌, ◌==◌, ◌∙◌, nat_lt, if◌then◌else◌, Bool, true, false, List, [], ◌∷◌, ◌++◌, length, take, drop, get_or, slice_index, map, Ok, codes, refl, sym, ap, ap₂, inl, inr, arith, lit<, eqb-true}
use Rattle.std.specs.Int.{w16, w32, w64, to_be_bytes}
use Rattle.std.specs.List.{AllByRecursion, list_all, range_with_len}
use Rattle.std.proofs.lemmas.Bool.{cases_Bool}
use Rattle.std.proofs.lemmas.List.Folds.{list_all_at}
use Rattle.std.proofs.lemmas.List.FromFn.{get_or-range_with_len}
use Rattle.hex.specs.Hex.{IsBytes, decode_of, encode_upper, encode_with, upper_digits}
use Rattle.hex.proofs.HexLemmas.{decode_of-encode_upper}
use Rattle.hsm_nibbles.specs.Characters.{hex_character, hex_of_bytes}
use Rattle.hsm_tdes.specs.Tdes.{enciphered}
use Rattle.hsm_types.specs.declared.types.KeyType.TheVariants.{Zpk}
use Rattle.hsm_types.specs.declared.types.Scheme.{Scheme}
use Rattle.hsm_types.specs.declared.types.Scheme.TheVariants.{Z}
use Rattle.hsm_lmk.specs.Sealing.{block_of, pair_key, under, wrap}
use Rattle.hsm_config.specs.Rules.{test_pairs}
use Rattle.hsm_lmk.specs.Opened.{sealed, sealed_from}
use Rattle.hsm_make.specs.Messages.{host_frame, host_text, made_key, sealed_key}

-- every element is a byte
abbrev pub AreBytes : List ℕ → Type 0
AreBytes bytes = AllByRecursion (λ byte. byte < 256) bytes

pub at_each : (bytes : List ℕ) → AreBytes bytes → IsBytes bytes
at_each [] are i = lit< tt
at_each (byte ∷ bytes) are zero = are.0
at_each (byte ∷ bytes) are (suc i) = at_each bytes are.1 i

pub bytes_append : (xs ys : List ℕ) → AreBytes xs → AreBytes ys → AreBytes (xs ++ ys)
bytes_append [] ys are more = more
bytes_append (x ∷ xs) ys are more = (are.0, bytes_append xs ys are.1 more)

pub bytes_take : (n : ℕ) (xs : List ℕ) → AreBytes xs → AreBytes (take n xs)
bytes_take zero xs are = tt
bytes_take (suc n) [] are = tt
bytes_take (suc n) (x ∷ xs) are = (are.0, bytes_take n xs are.1)

pub bytes_drop : (n : ℕ) (xs : List ℕ) → AreBytes xs → AreBytes (drop n xs)
bytes_drop zero xs are = are
bytes_drop (suc n) [] are = tt
bytes_drop (suc n) (x ∷ xs) are = bytes_drop n xs are.1

-- the bytes of a text that passes the test
text_bytes : (text : List ℕ) → list_all (λ (c : ℕ). nat_lt c 256) text ≡ true → AreBytes text
text_bytes [] passes = tt
text_bytes (c ∷ text) passes = (grind arith, text_bytes text (grind arith))

two_bytes : (n : ℕ) → AreBytes (to_be_bytes w16 n)
two_bytes n = (omega arith, (omega arith, tt))

four_bytes : (n : ℕ) → AreBytes (to_be_bytes w32 n)
four_bytes n = (omega arith, (omega arith, (omega arith, (omega arith, tt))))

eight_bytes : (n : ℕ) → AreBytes (to_be_bytes w64 n)
eight_bytes n =
    (omega arith, (omega arith, (omega arith, (omega arith, (omega arith, (omega arith, (omega arith, (omega arith, tt))))))))

character_below : (digit : ℕ) → digit < 16 → hex_character digit < 256
character_below digit below = go (nat_lt digit 10)
  where
    go : (test : Bool) → (if test then 48 + digit else 55 + digit) < 256
    go true = omega (arith, below)
    go false = omega (arith, below)

hex_bytes : (bytes : List ℕ) → AreBytes bytes → AreBytes (hex_of_bytes bytes)
hex_bytes [] are = tt
hex_bytes (byte ∷ bytes) are =
    (character_below (byte / 16) (omega (arith, are.0)), (character_below (byte % 16) (omega arith), hex_bytes bytes are.1))

sealed_bytes : (w : List (List ℕ)) (s : Scheme) (i : ℕ) (parts : List (List ℕ)) → AreBytes (sealed_from w s i parts)
sealed_bytes w s i [] = tt
sealed_bytes w s i (part ∷ parts) =
    let block = enciphered (under w s i) (block_of part) in
    bytes_append (to_be_bytes w64 block) (sealed_from w s (i + 1) parts) (eight_bytes block) (sealed_bytes w s (i + 1) parts)

key_bytes : AreBytes sealed_key
unfolding sealed_key sealed
key_bytes = sealed_bytes (wrap (map pair_key test_pairs) Zpk) Z 0 made_key

pub host_bytes : (kind x : ℕ) → AreBytes (host_text kind x)
host_bytes kind x = go (kind == 0) (kind == 1) (kind == 2)
  where
    go : (a b c : Bool) → AreBytes (if a then codes "B20008" ++ hex_of_bytes (to_be_bytes w32 x) else if b then codes "A00001U"
        else if c then codes "JA12345678901204" else codes "BU010" ++ hex_of_bytes sealed_key)
    go true b c = bytes_append (codes "B20008") (hex_of_bytes (to_be_bytes w32 x)) (text_bytes (codes "B20008") refl) (hex_bytes (to_be_bytes w32 x) (four_bytes x))
    go false true c = text_bytes (codes "A00001U") refl
    go false false true = text_bytes (codes "JA12345678901204") refl
    go false false false = bytes_append (codes "BU010") (hex_of_bytes sealed_key) (text_bytes (codes "BU010") refl) (hex_bytes sealed_key key_bytes)

pub frame_bytes : (kind x : ℕ) → AreBytes (host_frame kind x)
frame_bytes kind x =
    let message = codes "0001" ++ host_text kind x in
    bytes_append (to_be_bytes w16 (length message)) message (two_bytes (length message))
    (bytes_append (codes "0001") (host_text kind x) (text_bytes (codes "0001") refl) (host_bytes kind x))

-- ---- reading back

digits_agree : list_all (λ (d : ℕ). slice_index upper_digits d == hex_character d) (range_with_len 0 16) ≡ true
digits_agree = refl

same_digit : (d : ℕ) → d < 16 → slice_index upper_digits d ≡ hex_character d
same_digit d below =
    let p : ℕ → Bool = λ k. slice_index upper_digits k == hex_character k in
    let at : get_or (range_with_len 0 16) d 0 ≡ d = get_or-range_with_len 0 16 d 0 below ∙ omega arith in
    elim (cases_Bool (p d)) [
      | inl holds ↦ eqb-true (slice_index upper_digits d) (hex_character d) holds
      | inr fails ↦ absurd (cc (list_all_at p (range_with_len 0 16) d 0 below (ap p at ∙ fails), digits_agree))
    ]

upper_text : (bytes : List ℕ) → AreBytes bytes → hex_of_bytes bytes ≡ encode_upper bytes
unfolding encode_with
upper_text [] are = refl
upper_text (byte ∷ bytes) are =
    let high = sym (same_digit (byte / 16) (omega (arith, are.0))) in
    let low = sym (same_digit (byte % 16) (omega arith)) in
    ap₂ (λ (c : ℕ) (text : List ℕ). c ∷ text) high (ap₂ (λ (c : ℕ) (text : List ℕ). c ∷ text) low (upper_text bytes are.1))

-- The digits of some bytes are read as those bytes.
pub reads_back : (bytes : List ℕ) → AreBytes bytes → decode_of (hex_of_bytes bytes) ≡ Ok bytes
reads_back bytes are = ap decode_of (upper_text bytes are) ∙ decode_of-encode_upper bytes (at_each bytes are)
