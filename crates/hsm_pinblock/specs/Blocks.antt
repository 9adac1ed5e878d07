-- PIN blocks as sixteen nibbles. Codes 01, 05 and 47 are formats 0, 1 and 3 of ISO 9564-1.
use Rattle.std.specs.Prelude.{◌≡◌, ℕ, ◌-◌, ◌^◌, ◌<◌, Bool, true, false, not, ◌||◌, ◌&&◌, ◌==◌, nat_le, List, [], ◌∷◌, ◌++◌, length, take, replicate}
use Rattle.std.specs.List.{list_all}
use Rattle.hsm_tdes.specs.Tdes.{enciphered}
use Rattle.hsm_types.specs.Pins.{is_pin}
use Rattle.hsm_nibbles.specs.Nibbles.{nibbles_of, block_of, xor_nibbles}
use Rattle.hsm_lmk.specs.Pairs.{lmk_pair}
use Rattle.hsm_pinblock.specs.declared.Format.{Format}
use Rattle.hsm_pinblock.specs.declared.Format.TheVariants.{F01, F03, F05, F47}

-- the account field: 0000 and the twelve account digits
abbrev pub account_field : List ℕ → List ℕ
account_field account = 0 ∷ 0 ∷ 0 ∷ 0 ∷ account

-- the PIN field; formats 05 and 47 take the fill from its front
abbrev pub pin_field : Format → List ℕ → List ℕ → List ℕ
pin_field F01 pin fill = 0 ∷ length pin ∷ pin ++ replicate (14 - length pin) 15
pin_field F47 pin fill = 3 ∷ length pin ∷ pin ++ take (14 - length pin) fill
pin_field F05 pin fill = 1 ∷ length pin ∷ pin ++ take (14 - length pin) fill
pin_field F03 pin fill = pin ++ replicate (16 - length pin) 15

-- formats 01 and 47 are exclusive-ored with the account field
abbrev pub mixed : Format → List ℕ → List ℕ → List ℕ
mixed F01 account x = xor_nibbles x (account_field account)
mixed F47 account x = xor_nibbles x (account_field account)
mixed F05 account x = x
mixed F03 account x = x

-- the fill nibbles that a format permits
abbrev pub is_fill : Format → ℕ → Bool
is_fill F01 nibble = nibble == 15
is_fill F47 nibble = nat_le 10 nibble && nat_le nibble 15
is_fill F05 nibble = nat_le nibble 15
is_fill F03 nibble = nibble == 15

-- the formats that look at the fill
abbrev pub takes_fill : Format → Bool
takes_fill F01 = false
takes_fill F47 = true
takes_fill F05 = true
takes_fill F03 = false

-- the fill is permitted, or isn't looked at
abbrev pub permits_fill : Format → List ℕ → Bool
permits_fill format fill = not (takes_fill format) || list_all (is_fill format) fill

-- the block of a PIN, for the account and with the fill
unfoldable pub block_of_pin : Format → List ℕ → List ℕ → List ℕ → ℕ
block_of_pin format pin account fill = block_of (mixed format account (pin_field format pin fill))

-- the block is the PIN's, for the account and with the fill
pub record Block (format : Format) (pin account fill : List ℕ) (block : ℕ) : Type 0 where
  pub size : block < 2 ^ 64
  pub nibbles : nibbles_of block ≡ mixed format account (pin_field format pin fill)

-- the block is the PIN's, for the account and with some permitted fill
pub record HoldsPin (format : Format) (pin account : List ℕ) (block : ℕ) : Type 0 where
  pub digits : is_pin pin ≡ true
  pub fill : List ℕ
  pub long : length fill ≡ 14
  pub permitted : permits_fill format fill ≡ true
  pub made : Block format pin account fill block

-- the text of a PIN: its 01 block under LMK pair 02-03, the second of the set
abbrev pub sealed_pin : List (List (List ℕ)) → List ℕ → List ℕ → ℕ
sealed_pin set pin account = enciphered (lmk_pair set 1) (block_of_pin F01 pin account [])

-- the text is that of the PIN: it enciphers a 01 block that holds the PIN
pub record SealedPin (set : List (List (List ℕ))) (pin account : List ℕ) (text : ℕ) : Type 0 where
  pub clear : ℕ
  pub holds : HoldsPin F01 pin account clear
  pub sealed : text ≡ enciphered (lmk_pair set 1) clear
