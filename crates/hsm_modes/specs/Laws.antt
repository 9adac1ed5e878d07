-- Laws of ECB and CBC.
use Rattle.std.specs.Prelude.{◌≡◌, ◌↔◌, ℕ, ◌^◌, ◌<◌, List, [], ◌∷◌, ◌++◌}
use Rattle.std.specs.List.{AllByRecursion}
use Rattle.hsm_blocks.specs.Blocks.{blocks_of, bytes_of, joined, AllFillBlocks}
use Rattle.hsm_modes.specs.declared.Mode.{Mode}
use Rattle.hsm_modes.specs.Modes.{State, Ciphered, secret_blocks, clear_blocks, chain_after, all_made, after, whole, secrets_of}

-- all are blocks of 64 bits
abbrev pub AreBlocks : List ℕ → Type 0
AreBlocks blocks = AllByRecursion (λ block. block < 2 ^ 64) blocks

-- clear blocks have just one list of secret ones
abbrev pub OneSecretList : Type 0
OneSecretList = (key : List (List ℕ)) (mode : Mode) (chain : ℕ) (clear secret : List ℕ) → Ciphered key mode chain clear secret ↔ (secret ≡ secret_blocks key mode chain clear)

-- secret blocks have just one list of clear ones
abbrev pub OneClearList : Type 0
OneClearList =
    (key : List (List ℕ)) (mode : Mode) (chain : ℕ) (clear secret : List ℕ) → chain < 2 ^ 64 → AreBlocks clear → AreBlocks secret
    → Ciphered key mode chain clear secret ↔ (clear ≡ clear_blocks key mode chain secret)

-- block by block comes what comes of all blocks at once, and the chaining value is that of the secret blocks
abbrev pub BlockByBlock : Type 0
BlockByBlock = (s : State) (blocks : List ℕ) → all_made s blocks ≡ whole s.key s.mode s.chain s.dir blocks

abbrev pub ChainFollows : Type 0
ChainFollows = (s : State) (blocks : List ℕ) → (after s blocks).chain ≡ chain_after s.mode s.chain (secrets_of s.dir blocks (whole s.key s.mode s.chain s.dir blocks))

-- what parts become, each from the chaining value after the one before it
abbrev pub parts_made : State → List (List ℕ) → List ℕ
parts_made s [] = []
parts_made s (part ∷ parts) = bytes_of (all_made s (blocks_of part)) ++ parts_made (after s (blocks_of part)) parts

-- the state after parts
abbrev pub after_parts : State → List (List ℕ) → State
after_parts s [] = s
after_parts s (part ∷ parts) = after_parts (after s (blocks_of part)) parts

-- however data is cut at multiples of 8 bytes, the parts become what the whole becomes
abbrev pub PartsJoin : Type 0
PartsJoin = (s : State) (parts : List (List ℕ)) → AllFillBlocks parts → parts_made s parts ≡ bytes_of (all_made s (blocks_of (joined parts)))

-- and the last chaining value is the whole's
abbrev pub ChainsJoin : Type 0
ChainsJoin = (s : State) (parts : List (List ℕ)) → AllFillBlocks parts → after_parts s parts ≡ after s (blocks_of (joined parts))
