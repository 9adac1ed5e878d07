-- ECB and CBC (FIPS 81, SP 800-38A) over lists of blocks of 64 bits.
use Rattle.std.specs.Prelude.{◌≡◌, ℕ, ◌<◌, List, [], ◌∷◌, length, map, bit_xor, slice_index_or}
use Rattle.hsm_tdes.specs.Tdes.{enciphered, deciphered}
use Rattle.hsm_modes.specs.declared.Mode.{Mode}
use Rattle.hsm_modes.specs.declared.Mode.TheVariants.{Ecb, Cbc}
use Rattle.hsm_modes.specs.declared.Dir.{Dir}
use Rattle.hsm_modes.specs.declared.Dir.TheVariants.{Encrypt, Decrypt}

-- ---- the relation of clear and secret blocks

-- a block with the secret block before it: in CBC their exclusive-or
abbrev pub chained : Mode → ℕ → ℕ → ℕ
chained Ecb before block = block
chained Cbc before block = bit_xor block before

-- The secret blocks are the clear ones enciphered: block i is what the key makes of clear block i, in CBC exclusive-or secret block i - 1, the chaining value
-- standing before the first.
pub record Ciphered (key : List (List ℕ)) (mode : Mode) (chain : ℕ) (clear secret : List ℕ) : Type 0 where
  pub count : length secret ≡ length clear
  pub each : (i : ℕ) → i < length clear
      → slice_index_or secret i 0 ≡ enciphered key (chained mode (slice_index_or (chain ∷ secret) i 0) (slice_index_or clear i 0))

-- ---- the one list of secret blocks, and the one list of clear blocks

-- CBC: each clear block exclusive-or the secret block before it is enciphered
abbrev pub cbc_secret : List (List ℕ) → ℕ → List ℕ → List ℕ
cbc_secret key before [] = []
cbc_secret key before (block ∷ blocks) = let secret : ℕ = enciphered key (bit_xor block before) in secret ∷ cbc_secret key secret blocks

-- CBC: each secret block is deciphered, exclusive-or the secret block before it
abbrev pub cbc_clear : List (List ℕ) → ℕ → List ℕ → List ℕ
cbc_clear key before [] = []
cbc_clear key before (block ∷ blocks) = bit_xor (deciphered key block) before ∷ cbc_clear key block blocks

-- the secret blocks of clear ones
unfoldable pub secret_blocks : List (List ℕ) → Mode → ℕ → List ℕ → List ℕ
secret_blocks key Ecb chain blocks = map (enciphered key) blocks
secret_blocks key Cbc chain blocks = cbc_secret key chain blocks

-- the clear blocks of secret ones
unfoldable pub clear_blocks : List (List ℕ) → Mode → ℕ → List ℕ → List ℕ
clear_blocks key Ecb chain blocks = map (deciphered key) blocks
clear_blocks key Cbc chain blocks = cbc_clear key chain blocks

-- the last block, or this value where there is none
abbrev pub last_block : ℕ → List ℕ → ℕ
last_block before [] = before
last_block before (block ∷ blocks) = last_block block blocks

-- the chaining value after secret blocks: in CBC the last of them, or the one before them where there is none
abbrev pub chain_after : Mode → ℕ → List ℕ → ℕ
chain_after Ecb chain secret = chain
chain_after Cbc chain secret = last_block chain secret

-- ---- block by block

-- key, mode, direction and chaining value
pub record State : Type 0 where
  pub key : List (List ℕ)
  pub mode : Mode
  pub dir : Dir
  pub chain : ℕ

-- the state in CBC
abbrev pub in_cbc : List (List ℕ) → Dir → ℕ → State
in_cbc key dir chain = record { key = key; mode = Cbc; dir = dir; chain = chain }

-- the chaining value after a secret block
abbrev pub kept : Mode → ℕ → ℕ → ℕ
kept Ecb chain secret = chain
kept Cbc chain secret = secret

-- what a block becomes
abbrev pub made_by : List (List ℕ) → Mode → ℕ → Dir → ℕ → ℕ
made_by key mode chain Encrypt block = enciphered key (chained mode chain block)
made_by key mode chain Decrypt block = chained mode chain (deciphered key block)

abbrev pub made : State → ℕ → ℕ
made s block = made_by s.key s.mode s.chain s.dir block

-- the secret block of a block and what it becomes
abbrev pub secret_of : Dir → ℕ → ℕ → ℕ
secret_of Encrypt block result = result
secret_of Decrypt block result = block

-- the state after a block
abbrev pub next : State → ℕ → State
next s block = record { key = s.key; mode = s.mode; dir = s.dir; chain = kept s.mode s.chain (secret_of s.dir block (made s block)) }

-- what blocks become, one after another
abbrev pub all_made : State → List ℕ → List ℕ
all_made s [] = []
all_made s (block ∷ blocks) = made s block ∷ all_made (next s block) blocks

-- the state after blocks
abbrev pub after : State → List ℕ → State
after s [] = s
after s (block ∷ blocks) = after (next s block) blocks

-- what blocks become all at once
abbrev pub whole : List (List ℕ) → Mode → ℕ → Dir → List ℕ → List ℕ
whole key mode chain Encrypt blocks = secret_blocks key mode chain blocks
whole key mode chain Decrypt blocks = clear_blocks key mode chain blocks

-- the secret blocks among blocks and what they become
abbrev pub secrets_of : Dir → List ℕ → List ℕ → List ℕ
secrets_of Encrypt blocks results = results
secrets_of Decrypt blocks results = blocks
