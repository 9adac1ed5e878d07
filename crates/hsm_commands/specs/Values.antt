-- Keys and PINs of messages, and what is wrong with them.
use Rattle.std.specs.Prelude.{ℕ, nat_lt, if◌then◌else◌, List, ◌-◌, length, map, take, take_while, Option, Some, None, is_some}
use Rattle.std.specs.Char.{is_ascii_digit}
use Rattle.hsm_tdes.specs.Tdes.{deciphered}
use Rattle.hsm_pinblock.specs.declared.Format.{Format}
use Rattle.hsm_pinblock.specs.declared.Format.TheVariants.{F01}
use Rattle.hsm_pinblock.specs.Blocks.{block_of_pin}
use Rattle.hsm_pinblock.specs.Faults.{blockfault, pin_of_block, opened_block}
use Rattle.hsm_verify.specs.Values.{table_ok, natural_pin, offset, pvv, cvv}
use Rattle.hsm_nibbles.specs.Characters.{hex_character, digit_value}
use Rattle.hsm_rows.specs.declared.settings.Module.{Module}
use Rattle.hsm_answers.specs.Draws.{drawn_fill}
use Rattle.hsm_answers.specs.Pins.{block_fault_code, fill_length}
use Rattle.hsm_answers.specs.Values.{validation_block}

-- what is wrong with a block that was sent under the key
abbrev pub sent_fault : List (List ℕ) → Format → ℕ → List ℕ → Option ℕ
sent_fault key format block account = block_fault_code (blockfault format (deciphered key block) account)

-- the PIN of a block that was sent under the key
abbrev pub sent_pin : List (List ℕ) → Format → ℕ → List ℕ → List ℕ
sent_pin key format block account = pin_of_block format (deciphered key block) account

-- 24 where the PIN has more digits
abbrev pub longer_fault : ℕ → List ℕ → Option ℕ
longer_fault most pin = if nat_lt most (length pin) then Some 24 else None

-- 24 where the PIN has fewer digits
abbrev pub shorter_fault : ℕ → List ℕ → Option ℕ
shorter_fault least pin = if nat_lt (length pin) least then Some 24 else None

-- 25 where the decimalisation table may not be used
abbrev pub table_fault : List ℕ → Option ℕ
table_fault table = if table_ok table then None else Some 25

-- 14 where a text under the LMK has no PIN for the account
abbrev pub sealed_fault : List (List (List ℕ)) → ℕ → List ℕ → Option ℕ
sealed_fault set text account = if is_some (blockfault F01 (opened_block set text) account) then Some 14 else None

-- the PIN of a text under the LMK
abbrev pub opened_pin : List (List (List ℕ)) → ℕ → List ℕ → List ℕ
opened_pin set text account = pin_of_block F01 (opened_block set text) account

-- the digits at the front of a clear PIN's text
abbrev pub clear_digits : List ℕ → List ℕ
clear_digits text = map digit_value (take_while is_ascii_digit text)

-- 24 where they are fewer than 4
abbrev pub clear_fault : List ℕ → Option ℕ
clear_fault text = if nat_lt (length (clear_digits text)) 4 then Some 24 else None

-- the offset of a PIN as it is written: of its first digits, so many as `check` says, under the key, the decimalisation table and the validation data
abbrev pub offset_text : List (List ℕ) → List ℕ → List ℕ → List ℕ → List ℕ → ℕ → List ℕ
offset_text pvk table validation account pin check = map hex_character (offset (natural_pin pvk table (validation_block validation account)) pin check)

-- the PVV of a PIN as it is written, under the pair
abbrev pub pvv_text : List (List ℕ) → List (List ℕ) → List ℕ → ℕ → List ℕ → List ℕ
pvv_text a b account index pin = map hex_character (pvv a b account index pin)

-- the block of the PIN in the format, its fill drawn from the place on
abbrev pub block_drawn : Module → Format → List ℕ → List ℕ → ℕ → ℕ
block_drawn m format pin account place = block_of_pin format pin account (drawn_fill m format place (fill_length format pin))

-- the digits of an account number, which ends with a semicolon
abbrev pub account_digits : List ℕ → List ℕ
account_digits text = map digit_value (take (length text - 1) text)

-- the CVV of a card under two keys, as it is written
abbrev pub cvv_text : List (List ℕ) → List (List ℕ) → List ℕ → List ℕ → List ℕ → List ℕ
cvv_text a b account expiry service = map hex_character (cvv a b (account_digits account) (map digit_value expiry) (map digit_value service))
