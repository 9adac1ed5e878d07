-- What is wrong with a block: the first fault that it has.
use Rattle.std.specs.Prelude.{ℕ, Bool, false, not, ◌&&◌, ◌==◌, nat_le, if◌then◌else◌, Option, Some, None, List, length, take, drop, take_while, slice_index}
use Rattle.std.specs.List.{list_all}
use Rattle.hsm_types.specs.Pins.{is_decimal}
use Rattle.hsm_nibbles.specs.Nibbles.{nibbles_of}
use Rattle.hsm_tdes.specs.Tdes.{deciphered}
use Rattle.hsm_lmk.specs.Pairs.{lmk_pair}
use Rattle.hsm_pinblock.specs.Blocks.{mixed, is_fill}
use Rattle.hsm_pinblock.specs.declared.Format.{Format}
use Rattle.hsm_pinblock.specs.declared.Format.TheVariants.{F01, F03, F05, F47}
use Rattle.hsm_pinblock.specs.declared.BlockFault.{BlockFault}
use Rattle.hsm_pinblock.specs.declared.BlockFault.TheVariants.{Control, Length, Body}

-- the first nibble isn't the control
abbrev pub control_fails : Format → List ℕ → Bool
control_fails F01 x = not (slice_index x 0 == 0)
control_fails F47 x = not (slice_index x 0 == 3)
control_fails F05 x = not (slice_index x 0 == 1)
control_fails F03 x = false

-- the PIN's length: the second nibble, and in 03 the number of decimal nibbles before the first other one
abbrev pub length_in : Format → List ℕ → ℕ
length_in F01 x = slice_index x 1
length_in F47 x = slice_index x 1
length_in F05 x = slice_index x 1
length_in F03 x = length (take_while is_decimal x)

-- the length isn't 4 to 12
abbrev pub length_fails : Format → List ℕ → Bool
length_fails format x = not (nat_le 4 (length_in format x) && nat_le (length_in format x) 12)

-- the nibbles after control and length, and in 03 all nibbles
abbrev pub body_in : Format → List ℕ → List ℕ
body_in F01 x = drop 2 x
body_in F47 x = drop 2 x
body_in F05 x = drop 2 x
body_in F03 x = x

-- the nibbles of the PIN
abbrev pub pin_in : Format → List ℕ → List ℕ
pin_in format x = take (length_in format x) (body_in format x)

-- the nibbles of the fill
abbrev pub fill_in : Format → List ℕ → List ℕ
fill_in format x = drop (length_in format x) (body_in format x)

-- a PIN nibble isn't decimal, or a fill nibble isn't permitted
abbrev pub body_fails : Format → List ℕ → Bool
body_fails format x = not (list_all is_decimal (pin_in format x) && list_all (is_fill format) (fill_in format x))

-- the first fault of these nibbles, from which the account is taken out
unfoldable pub field_fault : Format → List ℕ → Option BlockFault
field_fault format x =
    if control_fails format x then Some Control
    else if length_fails format x then Some Length
    else if body_fails format x then Some Body
    else None

-- the first fault of the block for the account
abbrev pub blockfault : Format → ℕ → List ℕ → Option BlockFault
blockfault format block account = field_fault format (mixed format account (nibbles_of block))

-- the PIN of a block without a fault
unfoldable pub pin_of_block : Format → ℕ → List ℕ → List ℕ
pin_of_block format block account = pin_in format (mixed format account (nibbles_of block))

-- the block of a text under LMK pair 02-03
abbrev pub opened_block : List (List (List ℕ)) → ℕ → ℕ
opened_block set text = deciphered (lmk_pair set 1) text
