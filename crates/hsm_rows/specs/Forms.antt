-- The one size of a text of a field's form at the front of what is left, given the texts of the earlier fields; none where no such text stands there.
use Rattle.std.specs.Prelude.{ℕ, Bool, false, not, ◌&&◌, ◌||◌, ◌+◌, ◌-◌, ◌*◌, ◌%◌, ◌==◌, nat_eq, nat_le, if◌then◌else◌, List, [], ◌∷◌, length, take, drop, map, Option, Some, None, is_some, codes, slice_index_or, count_by}
use Rattle.std.specs.List.{list_all, prefix_len, starts_with}
use Rattle.std.specs.Char.{is_ascii_digit, is_ascii_hexdigit}
use Rattle.std.specs.Str.{bytes_eq}
use Rattle.std.specs.Borrow.{Bor}
use Rattle.hsm_nibbles.specs.Characters.{digit_value}
use Rattle.hsm_auth.specs.Activities.{activity_of}
use Rattle.hsm_types.specs.Table.{code_of}
use Rattle.hsm_types.specs.Table as table
use Rattle.hsm_text.specs.Sizes.{only_if, digits_size, hex_size, take_size, word_size, one_of_size, key_size}
use Rattle.hsm_text.specs.declared.keys.KeyForm.{KeyForm}
use Rattle.hsm_text.specs.declared.keys.KeyForm.TheVariants as key
use Rattle.hsm_rows.specs.declared.row.Form.{Form}
use Rattle.hsm_rows.specs.declared.row.Form.TheVariants.{Digits1, Digits3, Digits4, Digits12, Digits16, Hex16, Key, Pair, WrappedKey, KeyByFlag, KeyType, MacType, Type2, Flag, Scheme, WrapScheme, Format, Length, Wrapper, Account, ClearPin, Offset, Validation, ZeroToOne, ZeroToTwo, ZeroToThree, OneOrThree, Count, Data, DataByInput, Mode03Mac, TwoZeros, FfSemicolon, FfType, Mode1Wrapper, Mode1Key, Mode1WrapScheme, Mode23Chain, Component, LastComponent, SetNumber, Act, ActOrAll, Minutes, Word}

-- the bytes of a text
abbrev pub shown : Bor (List ℕ) → List ℕ
shown text = text.now

-- the text of an earlier field, by its position
abbrev pub text_at : List (List ℕ) → ℕ → List ℕ
text_at earlier k = slice_index_or earlier k []

-- the text of the field just before
abbrev pub last_text : List (List ℕ) → List ℕ
last_text earlier = text_at earlier (length earlier - 1)

-- a conditional text: of no bytes where the condition fails
abbrev pub when : Bool → Option ℕ → Option ℕ
when holds size = if holds then size else Some 0

-- whether the mode, the first field, is one of these digits
abbrev pub mode_is : List ℕ → List (List ℕ) → Bool
mode_is [] earlier = false
mode_is (digit ∷ digits) earlier = bytes_eq (text_at earlier 0) (digit ∷ []) || mode_is digits earlier

-- whether the type is named by a field of its own
abbrev pub is_ff : List ℕ → Bool
is_ff text = bytes_eq text (codes "FF")

-- the value of four hexadecimal digits
unfoldable pub hex_value : List ℕ → ℕ
hex_value (a ∷ b ∷ c ∷ d ∷ []) = ((digit_value a * 16 + digit_value b) * 16 + digit_value c) * 16 + digit_value d
hex_value _ = 0

-- the value of decimal digits, v being that of the digits before them
abbrev pub decimal_from : ℕ → List ℕ → ℕ
decimal_from v [] = v
decimal_from v (digit ∷ digits) = decimal_from (v * 10 + (digit - 48)) digits

-- the value of two decimal digits
abbrev pub two_digit_value : List ℕ → ℕ
two_digit_value (a ∷ b ∷ []) = (a - 48) * 10 + (b - 48)
two_digit_value _ = 0

-- nothing where no semicolon follows, else `;0` or `;1`
unfoldable pub wrapper_size : List ℕ → Option ℕ
wrapper_size rest = if starts_with nat_eq rest (codes ";") then one_of_size (codes ";0" ∷ codes ";1" ∷ []) rest else Some 0

-- 12 to 19 digits and a semicolon
unfoldable pub account_size : List ℕ → Option ℕ
account_size rest =
    let k = prefix_len is_ascii_digit rest in
    only_if ((nat_le 12 k && nat_le k 19) && starts_with nat_eq (drop k rest) (codes ";")) (k + 1)

-- the character F
abbrev pub is_f : ℕ → Bool
is_f = nat_eq 70

-- twelve characters: k digits, then F to the end
unfoldable pub filled_size : ℕ → List ℕ → Option ℕ
filled_size k rest = only_if (nat_le 12 (length rest) && (list_all is_ascii_digit (take k (take 12 rest)) && list_all is_f (drop k (take 12 rest)))) 12

-- the character N
abbrev pub is_n : ℕ → Bool
is_n = nat_eq 78

-- a hexadecimal digit or N
abbrev pub hex_or_n : ℕ → Bool
hex_or_n c = is_ascii_hexdigit c || is_n c

-- twelve characters: 11 hexadecimal digits and one N
unfoldable pub validation_size : List ℕ → Option ℕ
validation_size rest = only_if (nat_le 12 (length rest) && (list_all hex_or_n (take 12 rest) && count_by is_n (take 12 rest) == 1)) 12

-- `%` and two decimal digits
unfoldable pub is_set_text : List ℕ → Bool
is_set_text (a ∷ b ∷ c ∷ []) = nat_eq 37 a && (is_ascii_digit b && is_ascii_digit c)
is_set_text _ = false

-- the text of a set at the front
unfoldable pub set_size : List ℕ → Option ℕ
set_size rest = only_if (is_set_text (take 3 rest)) 3

-- the number that such a text names; where there is none the number is 0
unfoldable pub set_number : List ℕ → ℕ
set_number (a ∷ b ∷ c ∷ []) = if is_set_text (a ∷ b ∷ c ∷ []) then (b - 48) * 10 + (c - 48) else 0
set_number _ = 0

-- any character but a space
abbrev pub is_no_space : ℕ → Bool
is_no_space c = not (nat_eq 32 c)

-- what stands before the next space or the end, where it passes the test
unfoldable pub token_size : (List ℕ → Bool) → List ℕ → Option ℕ
token_size test rest = let k = prefix_len is_no_space rest in only_if (test (take k rest)) k

-- a visible character
abbrev pub is_visible : ℕ → Bool
is_visible c = nat_le 33 c && nat_le c 126

-- 1 to 64 visible characters
abbrev pub is_word : List ℕ → Bool
is_word text = nat_le 1 (length text) && (nat_le (length text) 64 && list_all is_visible text)

-- a decimal number of at most 720, without leading zeros
abbrev pub is_minutes : List ℕ → Bool
is_minutes text =
    bytes_eq text (codes "0")
    || (((nat_le 1 (length text) && nat_le (length text) 4) && list_all is_ascii_digit text)
    && (not (starts_with nat_eq text (codes "0")) && nat_le (decimal_from 0 text) 720))

-- an activity
abbrev pub is_activity : List ℕ → Bool
is_activity text = is_some (activity_of text)

-- an activity or a star
abbrev pub is_activity_or_star : List ℕ → Bool
is_activity_or_star text = bytes_eq text (codes "*") || is_activity text

-- the codes of the key types
unfoldable pub types : List (List ℕ)
types = map code_of table.types

-- FF, and the codes of the LMK pairs of the key types
unfoldable pub pair_codes : List (List ℕ)
pair_codes = codes "FF" ∷ codes "00" ∷ codes "01" ∷ codes "02" ∷ codes "03" ∷ codes "08" ∷ codes "09" ∷ codes "0A" ∷ codes "0B" ∷ []

-- the lengths of PINs
unfoldable pub lengths : List (List ℕ)
lengths = codes "04" ∷ codes "05" ∷ codes "06" ∷ codes "07" ∷ codes "08" ∷ codes "09" ∷ codes "10" ∷ codes "11" ∷ codes "12" ∷ []

-- the schemes under an LMK
abbrev pub schemes : List (List ℕ)
schemes = codes "Z" ∷ codes "U" ∷ codes "T" ∷ []

-- the schemes under a wrapping key
abbrev pub wrap_schemes : List (List ℕ)
wrap_schemes = codes "Z" ∷ codes "U" ∷ codes "T" ∷ codes "X" ∷ codes "Y" ∷ []

-- the formats of PIN blocks
abbrev pub formats : List (List ℕ)
formats = codes "01" ∷ codes "03" ∷ codes "05" ∷ codes "47" ∷ []

-- the number of hexadecimal digits of a component: 16 for each part of the scheme
abbrev pub component_digits : List ℕ → ℕ
component_digits scheme = if bytes_eq scheme (codes "Z") then 16 else if bytes_eq scheme (codes "U") then 32 else 48

-- the form of a key text by the flag
abbrev pub key_by_flag : List ℕ → KeyForm
key_by_flag flag = if bytes_eq flag (codes "0") then key.F0 else if bytes_eq flag (codes "1") then key.F1 else key.F2

-- n bytes of data; hexadecimal data are an even number of hexadecimal digits
abbrev pub data_size : Bool → ℕ → List ℕ → Option ℕ
data_size hexadecimal n rest = if hexadecimal then (if n % 2 == 0 then hex_size n rest else None) else take_size n rest

-- the number of digits of a MAC by its size
abbrev pub mac_digits : List ℕ → ℕ
mac_digits mac_size = if bytes_eq mac_size (codes "0") then 8 else 16

-- the size of a text of the form, the texts of the earlier fields being e
unfoldable pub size : Form → List (List ℕ) → List ℕ → Option ℕ
size Digits1 e rest = digits_size 1 rest
size Digits3 e rest = digits_size 3 rest
size Digits4 e rest = digits_size 4 rest
size Digits12 e rest = digits_size 12 rest
size Digits16 e rest = digits_size 16 rest
size Hex16 e rest = hex_size 16 rest
size Key e rest = key_size key.K rest
size Pair e rest = key_size key.P rest
size WrappedKey e rest = key_size key.W rest
size (KeyByFlag flag) e rest = key_size (key_by_flag (text_at e flag)) rest
size KeyType e rest = one_of_size types rest
size MacType e rest = one_of_size (codes "003" ∷ codes "008" ∷ []) rest
size Type2 e rest = one_of_size pair_codes rest
size Flag e rest = one_of_size (codes "0" ∷ codes "1" ∷ codes "2" ∷ []) rest
size Scheme e rest = one_of_size schemes rest
size WrapScheme e rest = one_of_size wrap_schemes rest
size Format e rest = one_of_size formats rest
size Length e rest = one_of_size lengths rest
size Wrapper e rest = wrapper_size rest
size Account e rest = account_size rest
size ClearPin e rest = filled_size (prefix_len is_ascii_digit (take 12 rest)) rest
size (Offset check) e rest = filled_size (two_digit_value (text_at e check)) rest
size Validation e rest = validation_size rest
size ZeroToOne e rest = one_of_size (codes "0" ∷ codes "1" ∷ []) rest
size ZeroToTwo e rest = one_of_size (codes "0" ∷ codes "1" ∷ codes "2" ∷ []) rest
size ZeroToThree e rest = one_of_size (codes "0" ∷ codes "1" ∷ codes "2" ∷ codes "3" ∷ []) rest
size OneOrThree e rest = one_of_size (codes "1" ∷ codes "3" ∷ []) rest
size Count e rest = hex_size 4 rest
size Data e rest = take_size (hex_value (last_text e)) rest
size (DataByInput input) e rest = data_size (bytes_eq (text_at e input) (codes "1")) (hex_value (last_text e)) rest
size (Mode03Mac mac_size) e rest = when (mode_is (codes "03") e) (hex_size (mac_digits (text_at e mac_size)) rest)
size TwoZeros e rest = word_size (codes "00") rest
size (FfSemicolon ty) e rest = when (is_ff (text_at e ty)) (word_size (codes ";") rest)
size (FfType ty) e rest = when (is_ff (text_at e ty)) (one_of_size types rest)
size Mode1Wrapper e rest = when (mode_is (codes "1") e) (wrapper_size rest)
size Mode1Key e rest = when (mode_is (codes "1") e) (key_size key.K rest)
size Mode1WrapScheme e rest = when (mode_is (codes "1") e) (one_of_size wrap_schemes rest)
size Mode23Chain e rest = when (mode_is (codes "23") e) (hex_size 16 rest)
size (Component scheme) e rest = hex_size (component_digits (text_at e scheme)) rest
size (LastComponent scheme) e rest = hex_size (component_digits (text_at e scheme)) rest
size SetNumber e rest = set_size rest
size Act e rest = token_size is_activity rest
size ActOrAll e rest = token_size is_activity_or_star rest
size Minutes e rest = token_size is_minutes rest
size Word e rest = token_size is_word rest
