-- DES (FIPS 46-3; the section is named in brackets). A block and a key are lists of 64 bits, a half is a list of 32 and a round key of 48.
use Rattle.std.specs.Prelude.{ℕ, Bool, List, [], ◌∷◌, ◌++◌, take, drop, reverse, slice_index, slice_index_or}
use Rattle.std.specs.Int.{w64, from_be_bytes}
use Rattle.hsm_des.specs.Bits.{bits, number, xor_bits, pick, bit_of}
use Rattle.hsm_des.specs.Tables.{initial_permutation, final_permutation, expansion, box_permutation, key_choice, round_key_choice, left_shifts, boxes}

-- the digit of an S box for six bits: the outer two are the row, the inner four the column ("The cipher function f")
abbrev pub box_digit : List (List ℕ) → List Bool → ℕ
box_digit box six =
    slice_index
    (slice_index_or box (number (bit_of six 1 ∷ bit_of six 6 ∷ [])) [])
    (number (take 4 (drop 1 six)))

-- the four bits of each box for its six bits, box after box
abbrev pub substitute : List (List (List ℕ)) → List Bool → List Bool
substitute [] x = []
substitute (box ∷ rest) x = bits 4 (box_digit box (take 6 x)) ++ substitute rest (drop 6 x)

-- f (R, K): P of the boxes' bits for E (R) exclusive-or K ("The cipher function f")
unfoldable pub cipher_function : List Bool → List Bool → List Bool
cipher_function half key = pick box_permutation (substitute boxes (xor_bits (pick expansion half) key))

-- L and R, the left and the right half of a block
pub record Halves : Type 0 where
  pub left : List Bool
  pub right : List Bool

-- the halves of a block
abbrev pub halves : List Bool → Halves
halves x = record { left = take 32 x; right = drop 32 x }

-- each half in the place of the other
abbrev pub exchanged : Halves → Halves
exchanged h = record { left = h.right; right = h.left }

-- the block of two halves
abbrev pub joined : Halves → List Bool
joined h = h.left ++ h.right

-- one round: L' is R, and R' is L exclusive-or f (R, K) ("Enciphering")
abbrev pub round : Halves → List Bool → Halves
round h key = record { left = h.right; right = xor_bits h.left (cipher_function h.right key) }

-- the halves after a round with each key in turn
abbrev pub after_rounds : List (List Bool) → Halves → Halves
after_rounds [] h = h
after_rounds (key ∷ keys) h = after_rounds keys (round h key)

-- IP, a round with each key in turn, the halves exchanged, and the inverse of IP ("Enciphering")
unfoldable pub cipher : List (List Bool) → List Bool → List Bool
cipher keys x = pick final_permutation (joined (exchanged (after_rounds keys (halves (pick initial_permutation x)))))

-- turned n places to the left
abbrev pub turned : ℕ → List Bool → List Bool
turned n x = drop n x ++ take n x

-- the round keys of the halves C and D, one for each of the shifts (appendix 1)
abbrev pub keys_from : List ℕ → List Bool → List Bool → List (List Bool)
keys_from [] c d = []
keys_from (shift ∷ shifts) c d =
    pick round_key_choice (turned shift c ++ turned shift d) ∷ keys_from shifts (turned shift c) (turned shift d)

-- K1 to K16 of a key (appendix 1)
unfoldable pub round_keys : List Bool → List (List Bool)
round_keys key = keys_from left_shifts (take 28 (pick key_choice key)) (drop 28 (pick key_choice key))

-- the block x enciphered ("Enciphering")
abbrev pub enciphered_bits : List Bool → List Bool → List Bool
enciphered_bits key x = cipher (round_keys key) x

-- the block x deciphered, which takes the round keys in reverse ("Deciphering")
abbrev pub deciphered_bits : List Bool → List Bool → List Bool
deciphered_bits key x = cipher (reverse (round_keys key)) x

-- the bits of a key of 8 bytes
unfoldable pub key_bits : List ℕ → List Bool
key_bits key = bits 64 (from_be_bytes w64 key)

-- a block of 64 bits as a number, enciphered under these round keys
unfoldable pub encrypted : List (List Bool) → ℕ → ℕ
encrypted keys block = number (cipher keys (bits 64 block))

-- a block as a number, deciphered under these round keys
unfoldable pub decrypted : List (List Bool) → ℕ → ℕ
decrypted keys block = number (cipher (reverse keys) (bits 64 block))

-- a block as a number, enciphered under a key of 8 bytes
abbrev pub des_encrypt : List ℕ → ℕ → ℕ
des_encrypt key block = encrypted (round_keys (key_bits key)) block

-- a block as a number, deciphered under a key of 8 bytes
abbrev pub des_decrypt : List ℕ → ℕ → ℕ
des_decrypt key block = decrypted (round_keys (key_bits key)) block
