-- Blocks of 64 bits and the bytes that write them, 8 bytes a block, the first byte most significant.
use Rattle.std.specs.Prelude.{◌≡◌, ℕ, ◌/◌, ◌%◌, Bool, true, ◌==◌, List, length, map, flat_map}
use Rattle.std.specs.List.{AllByRecursion}
use Rattle.std.specs.Int.{w64, from_be_bytes, to_be_bytes}
use Rattle.std.specs.Simd.{first_chunks}

-- the block of 8 bytes, the first byte most significant
unfoldable pub block_of_bytes : List ℕ → ℕ
block_of_bytes bytes = from_be_bytes w64 bytes

-- the whole blocks of bytes, 8 bytes a block
unfoldable pub blocks_of : List ℕ → List ℕ
blocks_of bytes = map block_of_bytes (first_chunks 8 (length bytes / 8) bytes)

-- the bytes of blocks
unfoldable pub bytes_of : List ℕ → List ℕ
bytes_of blocks = flat_map (to_be_bytes w64) blocks

-- the number of bytes is a multiple of 8
abbrev pub fills_blocks : List ℕ → Bool
fills_blocks bytes = length bytes % 8 == 0

-- the parts one after another
abbrev pub joined : List (List ℕ) → List ℕ
joined parts = flat_map (λ part. part) parts

-- every part is a multiple of 8 bytes
abbrev pub AllFillBlocks : List (List ℕ) → Type 0
AllFillBlocks parts = AllByRecursion (λ part. fills_blocks part ≡ true) parts
