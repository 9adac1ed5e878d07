-- Keys, PINs and fill that are drawn from the random words at an entry.
use Rattle.std.specs.Prelude.{ℕ, zero, suc, ◌+◌, ◌%◌, if◌then◌else◌, List, [], ◌∷◌, ◌++◌, map, bit_xor}
use Rattle.std.specs.Str.{bytes_eq}
use Rattle.std.specs.Int.{w32, to_le_bytes}
use Rattle.rand_chacha.specs.ChaCha.{word_at, key_of as seed_key}
use Rattle.hsm_parity.specs.Parity.{adjusted}
use Rattle.hsm_pinblock.specs.declared.Format.{Format}
use Rattle.hsm_pinblock.specs.declared.Format.TheVariants.{F01, F03, F05, F47}
use Rattle.hsm_rows.specs.declared.settings.Module.{Module}

-- the random word at a place: the ChaCha20 word of the seed, stream 0
unfoldable pub word : Module → ℕ → ℕ
word m place = word_at 10 (seed_key m.seed) 0 place

-- a word as four bytes, the least significant first
abbrev pub word_bytes : ℕ → List ℕ
word_bytes w = to_le_bytes w32 w

-- a key part is two words, adjusted to odd parity
abbrev pub drawn_part : Module → ℕ → List ℕ
drawn_part m place = adjusted (word_bytes (word m place) ++ word_bytes (word m (place + 1)))

-- the byte exclusive-ored with F0
abbrev pub turned : ℕ → ℕ
turned byte = bit_xor byte 0xF0

-- a part equal to the part before it is exclusive-ored with F0 in each byte
abbrev pub unlike : List ℕ → List ℕ → List ℕ
unlike before part = if bytes_eq part before then map turned part else part

-- n parts from a place on, after the part before them
abbrev pub drawn_parts : Module → ℕ → ℕ → List ℕ → List (List ℕ)
drawn_parts m place zero before = []
drawn_parts m place (suc n) before = unlike before (drawn_part m place) ∷ drawn_parts m (place + 2) n (unlike before (drawn_part m place))

-- a key of n parts; its words begin at the place
unfoldable pub drawn_key : Module → ℕ → ℕ → List (List ℕ)
drawn_key m place n = drawn_parts m place n []

-- a PIN of n digits: each digit is one word modulo 10
abbrev pub drawn_digits : Module → ℕ → ℕ → List ℕ
drawn_digits m place zero = []
drawn_digits m place (suc n) = word m place % 10 ∷ drawn_digits m (place + 1) n

-- the fill nibble of a word
abbrev pub fill_nibble : Format → ℕ → ℕ
fill_nibble F01 w = 15
fill_nibble F03 w = 15
fill_nibble F05 w = w % 16
fill_nibble F47 w = 10 + w % 6

-- n fill nibbles, in order
abbrev pub drawn_fill : Module → Format → ℕ → ℕ → List ℕ
drawn_fill m format place zero = []
drawn_fill m format place (suc n) = fill_nibble format (word m place) ∷ drawn_fill m format (place + 1) n
