-- The bytes that hexadecimal digits name, as the decoder gives them.
use Rattle.std.proofs.Common.{◌≡◌, ℕ, ◌+◌, ◌*◌, ◌/◌, ◌%◌, true, ◌&&◌, List, [], ◌∷◌, length, refl, ap, ◌∙◌, arith}
use Rattle.std.specs.Prelude.{Some, Ok}
use Rattle.std.specs.List.{list_all}
use Rattle.std.specs.Char.{is_ascii_hexdigit}
use Rattle.std.proofs.lemmas.Bool.{and_parts}
use Rattle.hsm_nibbles.specs.Characters.{digit_value, bytes_of_hex}
use Rattle.hex.specs.Hex.{hex_digit_value, decode_pairs, decode_sized, pair_value}
use Rattle.hex.proofs.Pairs.{cons_byte, decode_pairs-ok_pair, decode_sized-pairs}
use Rattle.std.proofs.lemmas.Bool.Decides.{nat_tests}

-- a digit's value
value_is : (c : ℕ) → is_ascii_hexdigit c ≡ true → hex_digit_value c ≡ Some (digit_value c)
value_is c h = grind (arith, nat_tests)

pair_is : (a b i : ℕ) → hex_digit_value a ≡ Some (digit_value a) → hex_digit_value b ≡ Some (digit_value b)
    → pair_value a b i ≡ Ok (digit_value a * 16 + digit_value b)
pair_is a b i x y = rw (x, y) refl

pairs_are : (i : ℕ) (text : List ℕ) → list_all is_ascii_hexdigit text ≡ true → length text % 2 ≡ 0 → decode_pairs i text ≡ Ok (bytes_of_hex text)
unfolding decode_pairs
pairs_are i [] h even = refl
pairs_are i (a ∷ []) h even = absurd (omega arith)
pairs_are i (a ∷ b ∷ rest) h even =
    let first = and_parts (is_ascii_hexdigit a) (is_ascii_hexdigit b && list_all is_ascii_hexdigit rest) h in
    let second = and_parts (is_ascii_hexdigit b) (list_all is_ascii_hexdigit rest) first.1 in
    let left : length rest % 2 ≡ 0 = omega arith in
    decode_pairs-ok_pair i a b (digit_value a * 16 + digit_value b) rest (pair_is a b i (value_is a first.0) (value_is b second.0))
    ∙ ap (cons_byte (digit_value a * 16 + digit_value b)) (pairs_are (i + 2) rest second.1 left)

-- an even number of digits decodes to the bytes that they name
pub decodes : (text : List ℕ) → list_all is_ascii_hexdigit text ≡ true → length text % 2 ≡ 0
    → decode_sized text (length text / 2) ≡ Ok (bytes_of_hex text)
decodes text h even = decode_sized-pairs text (length text / 2) even refl ∙ pairs_are 0 text h even
