-- A MAC in parts is the MAC of the parts joined.
use Rattle.std.specs.Prelude.{◌≡◌, ℕ, true, false, List, ◌++◌, fold, flat_map}
use Rattle.std.specs.List.{AllByRecursion}
use Rattle.hsm_mac.specs.declared.Alg.{Alg}
use Rattle.hsm_mac.specs.declared.Pad.{Pad}
use Rattle.hsm_mac.specs.Macs.{blocks_of, fills_blocks, is_length, mac, padded}
use Rattle.hsm_mac.specs.States.{State, advanced}

-- the parts one after another
abbrev pub joined : List (List ℕ) → List ℕ
joined parts = flat_map (λ part. part) parts

-- every part is a multiple of 8 bytes
abbrev pub AllFillBlocks : List (List ℕ) → Type 0
AllFillBlocks parts = AllByRecursion (λ part. fills_blocks part ≡ true) parts

-- the chaining value after the parts, one after another
abbrev pub chain_after : List (List ℕ) → Alg → ℕ → List (List ℕ) → ℕ
chain_after key alg chain parts =
    let begun : State = record { key = key; alg = alg; chain = chain } in
    (fold advanced begun parts).chain

-- however whole blocks are parted, the state is that after all of them at once
abbrev pub PartsJoin : Type 0
PartsJoin = (s : State) (parts : List (List ℕ)) → AllFillBlocks parts → fold advanced s parts ≡ advanced s (joined parts)

-- a MAC in parts is that of the blocks of all earlier parts followed by those of the padded last one
abbrev pub MadeOfAllBlocks : Type 0
MadeOfAllBlocks =
    (key : List (List ℕ)) (alg : Alg) (pad : Pad) (chain : ℕ) (parts : List (List ℕ)) (last : List ℕ) → AllFillBlocks parts
    → mac key alg (chain_after key alg chain parts) (blocks_of (padded pad last))
    ≡ mac key alg chain (blocks_of (joined parts ++ padded pad last))

-- but for padding method 3, that is the MAC of the padded joined message, however it was parted
abbrev pub MadeOfJoined : Type 0
MadeOfJoined =
    (key : List (List ℕ)) (alg : Alg) (pad : Pad) (chain : ℕ) (parts : List (List ℕ)) (last : List ℕ) → AllFillBlocks parts → is_length pad ≡ false
    → mac key alg (chain_after key alg chain parts) (blocks_of (padded pad last))
    ≡ mac key alg chain (blocks_of (padded pad (joined parts ++ last)))
