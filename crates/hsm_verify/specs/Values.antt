-- Values of PINs and cards as lists of digits: PVV, natural PIN and offset of the 3624 method, CVV.
use Rattle.std.specs.Prelude.{ℕ, ◌+◌, ◌-◌, ◌%◌, Bool, not, ◌&&◌, ◌==◌, nat_lt, nat_le, List, [], ◌∷◌, ◌++◌, length, take, drop, map, filter, count_by, replicate, bit_xor, slice_index}
use Rattle.std.specs.List.{list_all}
use Rattle.hsm_tdes.specs.Tdes.{enciphered, deciphered}
use Rattle.hsm_types.specs.Pins.{is_decimal}
use Rattle.hsm_nibbles.specs.Nibbles.{nibbles_of, block_of}

-- a nibble of A to F
abbrev pub is_letter : ℕ → Bool
is_letter nibble = not (is_decimal nibble)

-- the decimal nibbles of a block from the left, then its letters from the left, each less 10
unfoldable pub selected : ℕ → List ℕ
selected block = filter is_decimal (nibbles_of block) ++ map (λ letter. letter - 10) (filter is_letter (nibbles_of block))

-- E (A, D (B, E (A, x)))
abbrev pub under_pair : List (List ℕ) → List (List ℕ) → ℕ → ℕ
under_pair a b x = enciphered a (deciphered b (enciphered a x))

-- the last 11 of 12 account digits, the index and the first 4 PIN digits
abbrev pub pvv_digits : List ℕ → ℕ → List ℕ → List ℕ
pvv_digits account index pin = drop 1 account ++ (index ∷ take 4 pin)

-- the PVV: the first four digits selected from the block of those digits, enciphered under the pair
abbrev pub pvv : List (List ℕ) → List (List ℕ) → List ℕ → ℕ → List ℕ → List ℕ
pvv a b account index pin = take 4 (selected (under_pair a b (block_of (pvv_digits account index pin))))

-- the natural PIN: the digits of the table at the nibbles of the enciphered validation block
unfoldable pub natural_pin : List (List ℕ) → List ℕ → ℕ → List ℕ
natural_pin pvk table validation = map (slice_index table) (nibbles_of (enciphered pvk validation))

-- a PIN digit less a natural digit, modulo 10
abbrev pub offset_digit : ℕ → ℕ → ℕ
offset_digit digit natural = (digit + (10 - natural % 10)) % 10

-- each PIN digit less the natural digit at its place
abbrev pub offset_digits : List ℕ → List ℕ → List ℕ
offset_digits [] ns = []
offset_digits (d ∷ ds) [] = []
offset_digits (d ∷ ds) (n ∷ ns) = offset_digit d n ∷ offset_digits ds ns

-- the offset of the first check digits, and F to 12
unfoldable pub offset : List ℕ → List ℕ → ℕ → List ℕ
offset natural pin check = offset_digits (take check pin) (take check natural) ++ replicate (12 - check) 15

-- account number, expiry date, service code, and zeros to 32
abbrev pub cvv_digits : List ℕ → List ℕ → List ℕ → List ℕ
cvv_digits pan expiry service = pan ++ (expiry ++ (service ++ replicate (25 - length pan) 0))

-- the CVV: the first block of those digits enciphered under A, exclusive-ored with the second, enciphered under the pair;
-- the first three digits selected from it
abbrev pub cvv : List (List ℕ) → List (List ℕ) → List ℕ → List ℕ → List ℕ → List ℕ
cvv a b pan expiry service =
    let digits = cvv_digits pan expiry service in
    let x = bit_xor (enciphered a (block_of (take 16 digits))) (block_of (drop 16 digits)) in
    take 3 (selected (under_pair a b x))

-- how often a digit occurs
abbrev pub occurrences : List ℕ → ℕ → ℕ
occurrences table digit = count_by (λ entry. entry == digit) table

-- how often each of the digits 0 to 9 occurs
unfoldable pub digit_counts : List ℕ → List ℕ
digit_counts table = map (occurrences table) (0 ∷ 1 ∷ 2 ∷ 3 ∷ 4 ∷ 5 ∷ 6 ∷ 7 ∷ 8 ∷ 9 ∷ [])

-- at least 8 different digits occur, and none more than 4 times
abbrev pub table_ok : List ℕ → Bool
table_ok table =
    nat_le 8 (count_by (λ count. nat_lt 0 count) (digit_counts table)) && list_all (λ count. nat_le count 4) (digit_counts table)
