-- MACs of ISO 9797-1, algorithms 1 and 3, over lists of bytes and of blocks of 64 bits.
use Rattle.std.specs.Prelude.{ℕ, ◌-◌, ◌*◌, ◌/◌, ◌%◌, ◌^◌, Bool, true, false, ◌==◌, List, [], ◌∷◌, ◌++◌, length, take, drop, map, replicate, fold, bit_xor}
use Rattle.std.specs.Int.{w64, from_be_bytes, to_be_bytes}
use Rattle.std.specs.Simd.{first_chunks}
use Rattle.hsm_tdes.specs.Tdes.{enciphered, deciphered}
use Rattle.hsm_mac.specs.declared.Alg.{Alg}
use Rattle.hsm_mac.specs.declared.Alg.TheVariants.{One, Three}
use Rattle.hsm_mac.specs.declared.Pad.{Pad}
use Rattle.hsm_mac.specs.declared.Pad.TheVariants.{Bare, Zeros, Bit, Length}

-- the block of 8 bytes, the first byte most significant
unfoldable pub block_of_bytes : List ℕ → ℕ
block_of_bytes bytes = from_be_bytes w64 bytes

-- the whole blocks of bytes, 8 bytes a block
unfoldable pub blocks_of : List ℕ → List ℕ
blocks_of bytes = map block_of_bytes (first_chunks 8 (length bytes / 8) bytes)

-- the number of bytes is a multiple of 8
abbrev pub fills_blocks : List ℕ → Bool
fills_blocks bytes = length bytes % 8 == 0

-- how many zero bytes go to the next multiple of 8
abbrev pub zeros_after : ℕ → ℕ
zeros_after n = (8 - n % 8) % 8

-- zero bytes to a multiple of 8, as few as possible
abbrev pub zeros_added : List ℕ → List ℕ
zeros_added bytes = bytes ++ replicate (zeros_after (length bytes)) 0

-- the padded data: padding 0, and padding methods 1, 2 and 3; method 3 puts the length in bits, modulo 2 ^ 64, in front
abbrev pub padded : Pad → List ℕ → List ℕ
padded Bare bytes = bytes
padded Zeros bytes = zeros_added bytes
padded Bit bytes = zeros_added (bytes ++ 0x80 ∷ [])
padded Length bytes = to_be_bytes w64 (8 * length bytes % 2 ^ 64) ++ zeros_added bytes

-- algorithm 3 takes a key of two parts, algorithm 1 any key
abbrev pub takes_key : Alg → List (List ℕ) → Bool
takes_key One key = true
takes_key Three key = length key == 2

-- the key of the blocks: the whole key, and part 1 in algorithm 3
abbrev pub block_key : Alg → List (List ℕ) → List (List ℕ)
block_key One key = key
block_key Three key = take 1 key

-- the chaining value after the blocks: from H and a block b comes E (K, H exclusive-or b)
unfoldable pub chained : Alg → List (List ℕ) → ℕ → List ℕ → ℕ
chained alg key chain blocks = fold (λ h b. enciphered (block_key alg key) (bit_xor h b)) chain blocks

-- the closing step: algorithm 1 ends with H, algorithm 3 with E (K, D (K', H)), K' being part 2
abbrev pub closed : Alg → List (List ℕ) → ℕ → ℕ
closed One key h = h
closed Three key h = enciphered (take 1 key) (deciphered (drop 1 key) h)

-- the MAC of the blocks, from a chaining value on
abbrev pub mac : List (List ℕ) → Alg → ℕ → List ℕ → ℕ
mac key alg chain blocks = closed alg key (chained alg key chain blocks)

-- the padding is 0
abbrev pub is_bare : Pad → Bool
is_bare Bare = true
is_bare Zeros = false
is_bare Bit = false
is_bare Length = false

-- the padding is method 3
abbrev pub is_length : Pad → Bool
is_length Bare = false
is_length Zeros = false
is_length Bit = false
is_length Length = true
