-- The PIN of a message, and what is wrong with it.
use Rattle.std.specs.Prelude.{ℕ, ◌-◌, nat_lt, if◌then◌else◌, List, [], length, map, take_while, Option, Some, None, is_some, codes}
use Rattle.std.specs.Str.{bytes_eq}
use Rattle.std.specs.Char.{is_ascii_digit}
use Rattle.hsm_tdes.specs.Tdes.{deciphered}
use Rattle.hsm_nibbles.specs.Nibbles.{nibbles_of, block_of}
use Rattle.hsm_nibbles.specs.Characters.{hex_character, digit_value}
use Rattle.hsm_pinblock.specs.Blocks.{takes_fill}
use Rattle.hsm_pinblock.specs.Faults.{blockfault, pin_of_block, opened_block}
use Rattle.hsm_pinblock.specs.declared.Format.{Format}
use Rattle.hsm_pinblock.specs.declared.Format.TheVariants.{F01, F03, F05, F47}
use Rattle.hsm_pinblock.specs.declared.BlockFault.{BlockFault}
use Rattle.hsm_pinblock.specs.declared.BlockFault.TheVariants.{Control, Length, Body}
use Rattle.hsm_rows.specs.Forms.{two_digit_value}
use Rattle.hsm_rows.specs.Reading.{ReadText}
use Rattle.hsm_rows.specs.declared.rules.PinSource.{PinSource}
use Rattle.hsm_rows.specs.declared.rules.PinSource.TheVariants.{NoPin, BlockPin, LmkPin, ClearPin, DrawnPin}
use Rattle.hsm_answers.specs.Read.{ReadMessage}
use Rattle.hsm_answers.specs.Keys.{field_text, set_of, lmk_key}
use Rattle.hsm_answers.specs.Draws.{drawn_digits}

-- the digit values of a field of decimal digits
abbrev pub digits_at : ReadText → ℕ → List ℕ
digits_at r k = map digit_value (field_text r k)

-- the block of a field of 16 hexadecimal digits
abbrev pub block_at : ReadText → ℕ → ℕ
block_at r k = block_of (map digit_value (field_text r k))

-- the number of a field of two decimal digits
abbrev pub number_at : ReadText → ℕ → ℕ
number_at r k = two_digit_value (field_text r k)

-- the 16 hexadecimal digits of a block
abbrev pub block_text : ℕ → List ℕ
block_text block = map hex_character (nibbles_of block)

-- the format of a code
abbrev pub format_of : List ℕ → Format
format_of t =
    if bytes_eq t (codes "03") then F03
    else if bytes_eq t (codes "05") then F05
    else if bytes_eq t (codes "47") then F47
    else F01

-- the format that a field names
abbrev pub format_at : ReadText → ℕ → Format
format_at r k = format_of (field_text r k)

-- the account of the row's PIN
abbrev pub pin_account : ReadText → PinSource → List ℕ
pin_account r NoPin = []
pin_account r (BlockPin block key format account) = digits_at r account
pin_account r (LmkPin text account) = digits_at r account
pin_account r (ClearPin text account) = digits_at r account
pin_account r (DrawnPin len account) = digits_at r account

-- the block that the row's PIN was sent in, deciphered
abbrev pub sent_block : ReadMessage → ℕ → ℕ → ℕ
sent_block q block key = deciphered (lmk_key q key) (block_at q.read block)

-- the block of a PIN under the LMK, deciphered
abbrev pub lmk_block : ReadMessage → ℕ → ℕ
lmk_block q text = opened_block (set_of q) (block_at q.read text)

-- the clear digits before the F
abbrev pub clear_digits : ReadText → ℕ → List ℕ
clear_digits r text = map digit_value (take_while is_ascii_digit (field_text r text))

-- the row's PIN; one to be drawn has its words from the place on
unfoldable pub pin_from : ReadMessage → ℕ → PinSource → List ℕ
pin_from q place NoPin = []
pin_from q place (BlockPin block key format account) = pin_of_block (format_at q.read format) (sent_block q block key) (digits_at q.read account)
pin_from q place (LmkPin text account) = pin_of_block F01 (lmk_block q text) (digits_at q.read account)
pin_from q place (ClearPin text account) = clear_digits q.read text
pin_from q place (DrawnPin len account) = drawn_digits q.«module» place (number_at q.read len)

-- the PIN of the row
abbrev pub pin_of : ReadMessage → ℕ → List ℕ
pin_of q place = pin_from q place q.rules.pin

-- the PIN that was given; none of its words is drawn
abbrev pub given_pin : ReadMessage → List ℕ
given_pin q = pin_of q 0

-- 20 for control and body, 24 for the length
abbrev pub block_code : BlockFault → ℕ
block_code Control = 20
block_code Length = 24
block_code Body = 20

-- the code of a fault, if there is one
abbrev pub block_fault_code : Option BlockFault → Option ℕ
block_fault_code None = None
block_fault_code (Some fault) = Some (block_code fault)

-- what is wrong with the row's PIN: a block 20 or 24, a text under the LMK 14, fewer than 4 clear digits 24
unfoldable pub pin_fault : ReadMessage → PinSource → Option ℕ
pin_fault q NoPin = None
pin_fault q (BlockPin block key format account) = block_fault_code (blockfault (format_at q.read format) (sent_block q block key) (digits_at q.read account))
pin_fault q (LmkPin text account) = if is_some (blockfault F01 (lmk_block q text) (digits_at q.read account)) then Some 14 else None
pin_fault q (ClearPin text account) = if nat_lt (length (clear_digits q.read text)) 4 then Some 24 else None
pin_fault q (DrawnPin len account) = None

-- the nibbles of fill that a block of the format with the PIN takes
abbrev pub fill_length : Format → List ℕ → ℕ
fill_length format pin = if takes_fill format then 14 - length pin else 0
