-- Laws of PIN blocks.
use Rattle.std.specs.Prelude.{◌≡◌, ◌⊎◌, ℕ, ◌^◌, ◌<◌, true, Some, None, List, length}
use Rattle.std.specs.List.{list_all}
use Rattle.hsm_types.specs.Pins.{is_decimal}
use Rattle.hsm_pinblock.specs.Blocks.{HoldsPin, SealedPin}
use Rattle.hsm_pinblock.specs.Faults.{blockfault, opened_block, pin_of_block}
use Rattle.hsm_pinblock.specs.declared.Format.{Format}
use Rattle.hsm_pinblock.specs.declared.Format.TheVariants.{F01}
use Rattle.hsm_pinblock.specs.declared.BlockFault.{BlockFault}

-- twelve digits
pub record IsAccount (account : List ℕ) : Type 0 where
  pub long : length account ≡ 12
  pub decimal : list_all is_decimal account ≡ true

-- the block has exactly one PIN, and no fault
pub record HoldsExactlyOne (format : Format) (account : List ℕ) (block : ℕ) : Type 0 where
  pub pin : List ℕ
  pub holds : HoldsPin format pin account block
  pub only : (other : List ℕ) → HoldsPin format other account block → other ≡ pin
  pub no_fault : blockfault format block account ≡ None

-- the block has a fault, and no PIN
pub record HasFault (format : Format) (account : List ℕ) (block : ℕ) : Type 0 where
  pub fault : BlockFault
  pub first : blockfault format block account ≡ Some fault
  pub no_pin : (pin : List ℕ) → HoldsPin format pin account block → ⊥

-- a block either has exactly one PIN, with some permitted fill, or has a fault
abbrev pub OnePinOrFault : Type 0
OnePinOrFault =
    (format : Format) (account : List ℕ) (block : ℕ) → IsAccount account → block < 2 ^ 64
    → HoldsExactlyOne format account block ⊎ HasFault format account block

-- a block holds one PIN at most
abbrev pub HoldsOnePin : Type 0
HoldsOnePin =
    (format : Format) (p q account : List ℕ) (block : ℕ) → IsAccount account
    → HoldsPin format p account block → HoldsPin format q account block → p ≡ q

-- a block that holds a PIN has no fault
abbrev pub HasNoFault : Type 0
HasNoFault =
    (format : Format) (pin account : List ℕ) (block : ℕ) → IsAccount account
    → HoldsPin format pin account block → blockfault format block account ≡ None

-- a block without a fault holds a PIN
abbrev pub HoldsSomePin : Type 0
HoldsSomePin =
    (format : Format) (account : List ℕ) (block : ℕ) → IsAccount account → block < 2 ^ 64
    → blockfault format block account ≡ None → (pin : List ℕ) × HoldsPin format pin account block

-- the PIN that a block holds is the one that its nibbles show
abbrev pub IsPinOfBlock : Type 0
IsPinOfBlock =
    (format : Format) (pin account : List ℕ) (block : ℕ) → IsAccount account
    → HoldsPin format pin account block → pin_of_block format block account ≡ pin

-- the block of a sealed PIN's text has no fault, and shows the PIN
pub record ShowsSealed (set : List (List (List ℕ))) (pin account : List ℕ) (text : ℕ) : Type 0 where
  pub holds : HoldsPin F01 pin account (opened_block set text)
  pub no_fault : blockfault F01 (opened_block set text) account ≡ None
  pub shown : pin_of_block F01 (opened_block set text) account ≡ pin

-- a sealed PIN opens to itself for the same account
abbrev pub OpensAgain : Type 0
OpensAgain =
    (set : List (List (List ℕ))) (pin account : List ℕ) (text : ℕ) → IsAccount account
    → SealedPin set pin account text → ShowsSealed set pin account text
