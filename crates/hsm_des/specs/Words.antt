-- DES on words: where the bits of a round key and of a half lie in a word of 64, what parts of C and D give to a round key, and the exchange of bits between two words.
use Rattle.std.specs.Prelude.{◌≡◌, ℕ, ◌-◌, ◌*◌, ◌/◌, ◌%◌, ◌^◌, Bool, List, [], ◌∷◌}
use Rattle.std.specs.Int.RustNames.{bit_and, bit_xor}
use Rattle.hsm_des.specs.Bits.{bits, number, pick}

-- the places of a round key's 48 bits in a word of 64: the upper half has the sixes of boxes 1, 3, 5 and 7, a byte each, the lower half the others
unfoldable pub key_places : List ℕ
key_places =
    1 ∷ 2 ∷ 3 ∷ 4 ∷ 5 ∷ 6 ∷ 33 ∷ 34 ∷ 35 ∷ 36 ∷ 37 ∷ 38 ∷ 9 ∷ 10 ∷ 11 ∷ 12 ∷
    13 ∷ 14 ∷ 41 ∷ 42 ∷ 43 ∷ 44 ∷ 45 ∷ 46 ∷ 17 ∷ 18 ∷ 19 ∷ 20 ∷ 21 ∷ 22 ∷ 49 ∷ 50 ∷
    51 ∷ 52 ∷ 53 ∷ 54 ∷ 25 ∷ 26 ∷ 27 ∷ 28 ∷ 29 ∷ 30 ∷ 57 ∷ 58 ∷ 59 ∷ 60 ∷ 61 ∷ 62 ∷ []

-- the round key that a word holds
abbrev pub round_key : ℕ → List Bool
round_key word = pick key_places (bits 64 word)

-- the places of the 64 bits of a half's wide form in the half: turned one place to the right, then three to the left, so that the sixes of E lie where a round key's word has its own
unfoldable pub wide_places : List ℕ
wide_places =
    32 ∷ 1 ∷ 2 ∷ 3 ∷ 4 ∷ 5 ∷ 6 ∷ 7 ∷ 8 ∷ 9 ∷ 10 ∷ 11 ∷ 12 ∷ 13 ∷ 14 ∷ 15 ∷
    16 ∷ 17 ∷ 18 ∷ 19 ∷ 20 ∷ 21 ∷ 22 ∷ 23 ∷ 24 ∷ 25 ∷ 26 ∷ 27 ∷ 28 ∷ 29 ∷ 30 ∷ 31 ∷
    4 ∷ 5 ∷ 6 ∷ 7 ∷ 8 ∷ 9 ∷ 10 ∷ 11 ∷ 12 ∷ 13 ∷ 14 ∷ 15 ∷ 16 ∷ 17 ∷ 18 ∷ 19 ∷
    20 ∷ 21 ∷ 22 ∷ 23 ∷ 24 ∷ 25 ∷ 26 ∷ 27 ∷ 28 ∷ 29 ∷ 30 ∷ 31 ∷ 32 ∷ 1 ∷ 2 ∷ 3 ∷ []

-- the places of a half's 32 bits in the lower word of its wide form
unfoldable pub half_places : List ℕ
half_places =
    62 ∷ 63 ∷ 64 ∷ 33 ∷ 34 ∷ 35 ∷ 36 ∷ 37 ∷ 38 ∷ 39 ∷ 40 ∷ 41 ∷ 42 ∷ 43 ∷ 44 ∷ 45 ∷
    46 ∷ 47 ∷ 48 ∷ 49 ∷ 50 ∷ 51 ∷ 52 ∷ 53 ∷ 54 ∷ 55 ∷ 56 ∷ 57 ∷ 58 ∷ 59 ∷ 60 ∷ 61 ∷ []

-- the half that a word holds in wide form
abbrev pub half_of : ℕ → List Bool
half_of word = pick half_places (bits 64 word)

-- the word is the wide form of the half that it holds: its upper bits say the same half as its lower ones
abbrev pub IsWide : ℕ → Type 0
IsWide word = bits 64 word ≡ pick wide_places (half_of word)

-- PC-2 with each bit at its place in the word (57 is past the end of the 56 bits: a zero)
unfoldable pub round_key_word : List ℕ
round_key_word =
    14 ∷ 17 ∷ 11 ∷ 24 ∷ 1 ∷ 5 ∷ 57 ∷ 57 ∷ 23 ∷ 19 ∷ 12 ∷ 4 ∷ 26 ∷ 8 ∷ 57 ∷ 57 ∷
    41 ∷ 52 ∷ 31 ∷ 37 ∷ 47 ∷ 55 ∷ 57 ∷ 57 ∷ 44 ∷ 49 ∷ 39 ∷ 56 ∷ 34 ∷ 53 ∷ 57 ∷ 57 ∷
    3 ∷ 28 ∷ 15 ∷ 6 ∷ 21 ∷ 10 ∷ 57 ∷ 57 ∷ 16 ∷ 7 ∷ 27 ∷ 20 ∷ 13 ∷ 2 ∷ 57 ∷ 57 ∷
    30 ∷ 40 ∷ 51 ∷ 45 ∷ 33 ∷ 48 ∷ 57 ∷ 57 ∷ 46 ∷ 42 ∷ 50 ∷ 36 ∷ 29 ∷ 32 ∷ 57 ∷ 57 ∷ []

-- the places of a word's 64 bits in the round key that it holds (49 is past the end: a zero)
unfoldable pub word_places : List ℕ
word_places =
    1 ∷ 2 ∷ 3 ∷ 4 ∷ 5 ∷ 6 ∷ 49 ∷ 49 ∷ 13 ∷ 14 ∷ 15 ∷ 16 ∷ 17 ∷ 18 ∷ 49 ∷ 49 ∷
    25 ∷ 26 ∷ 27 ∷ 28 ∷ 29 ∷ 30 ∷ 49 ∷ 49 ∷ 37 ∷ 38 ∷ 39 ∷ 40 ∷ 41 ∷ 42 ∷ 49 ∷ 49 ∷
    7 ∷ 8 ∷ 9 ∷ 10 ∷ 11 ∷ 12 ∷ 49 ∷ 49 ∷ 19 ∷ 20 ∷ 21 ∷ 22 ∷ 23 ∷ 24 ∷ 49 ∷ 49 ∷
    31 ∷ 32 ∷ 33 ∷ 34 ∷ 35 ∷ 36 ∷ 49 ∷ 49 ∷ 43 ∷ 44 ∷ 45 ∷ 46 ∷ 47 ∷ 48 ∷ 49 ∷ 49 ∷ []

-- the word that holds a round key, zeros elsewhere
abbrev pub word_of : List Bool → ℕ
word_of key = number (pick word_places key)

-- the word of the round key of C and D, 56 bits as a number
unfoldable pub key_word : ℕ → ℕ
key_word x = number (pick round_key_word (bits 56 x))

-- the word of the round key of 56 bits in which the j-th seven are v and the others are zero
abbrev pub key_part : ℕ → ℕ → ℕ
key_part j v = key_word (v * 2 ^ (49 - 7 * j))

-- the bits under the mask in which the upper word, moved down, and the lower one differ
abbrev pub differing : ℕ → ℕ → ℕ → ℕ → ℕ
differing shift mask upper lower = bit_and (bit_xor (upper / 2 ^ shift) lower) mask

-- the upper word after these bits were exchanged
unfoldable pub upper_exchanged : ℕ → ℕ → ℕ → ℕ → ℕ
upper_exchanged shift mask upper lower = bit_xor upper (differing shift mask upper lower * 2 ^ shift % 2 ^ 32)

-- the lower word after these bits were exchanged
unfoldable pub lower_exchanged : ℕ → ℕ → ℕ → ℕ → ℕ
lower_exchanged shift mask upper lower = bit_xor lower (differing shift mask upper lower)
