-- The data and values of M6 and M8.
use Rattle.std.specs.Prelude.{ℕ, Bool, not, ◌&&◌, ◌||◌, if◌then◌else◌, List, take, Option, Some, None, codes}
use Rattle.std.specs.Str.{bytes_eq}
use Rattle.hsm_mac.specs.declared.Alg.{Alg}
use Rattle.hsm_mac.specs.declared.Alg.TheVariants.{One, Three}
use Rattle.hsm_mac.specs.declared.Pad.{Pad}
use Rattle.hsm_mac.specs.declared.Pad.TheVariants.{Bare, Zeros, Bit, Length}
use Rattle.hsm_mac.specs.Macs.{blocks_of, padded, chained, mac, fills_blocks, is_bare, is_length}
use Rattle.hsm_nibbles.specs.Characters.{bytes_of_hex}
use Rattle.hsm_rows.specs.Reading.{ReadText, is_end}
use Rattle.hsm_rows.specs.declared.rules.MacFields.{MacFields}
use Rattle.hsm_answers.specs.Read.{ReadMessage}
use Rattle.hsm_answers.specs.Keys.{field_text, is_absent, lmk_key}
use Rattle.hsm_answers.specs.Pins.{block_at, block_text}

-- whether field k is this digit
abbrev pub is_digit_at : ReadText → ℕ → List ℕ → Bool
is_digit_at r k digit = bytes_eq (field_text r k) digit

-- mode 0: the data is a whole message
abbrev pub is_only : ReadText → MacFields → Bool
is_only r f = is_digit_at r f.mode (codes "0")

-- modes 0 and 3: the data is a whole message or its last part; in modes 1 and 2 it is the first or a middle part
abbrev pub ends_message : ReadText → MacFields → Bool
ends_message r f = is_only r f || is_digit_at r f.mode (codes "3")

-- the data: the bytes that the digits name with input format 1, else the bytes themselves
abbrev pub mac_data : ReadText → MacFields → List ℕ
mac_data r f = if is_digit_at r f.input (codes "1") then bytes_of_hex (field_text r f.message) else field_text r f.message

-- the algorithm that its field names
abbrev pub mac_algorithm : ReadText → MacFields → Alg
mac_algorithm r f = if is_digit_at r f.algorithm (codes "3") then Three else One

-- the padding that its field names
abbrev pub mac_padding : ReadText → MacFields → Pad
mac_padding r f =
    if is_digit_at r f.padding (codes "1") then Zeros
    else if is_digit_at r f.padding (codes "2") then Bit
    else if is_digit_at r f.padding (codes "3") then Length
    else Bare

-- 0, or the chaining value that was given
abbrev pub mac_start : ReadText → MacFields → ℕ
mac_start r f = if is_absent r f.chain then 0 else block_at r f.chain

-- 80: no data; a part that is no multiple of 8 bytes where nothing pads it; padding 3 but in mode 0
unfoldable pub mac_fault : ReadText → MacFields → Option ℕ
mac_fault r f =
    if is_end (mac_data r f) then Some 80
    else if (not (ends_message r f) || is_bare (mac_padding r f)) && not (fills_blocks (mac_data r f)) then Some 80
    else if is_length (mac_padding r f) && not (is_only r f) then Some 80
    else None

-- the MAC, of 8 digits with size 0 and 16 with size 1
unfoldable pub mac_text : ReadMessage → MacFields → List ℕ
mac_text q f =
    let digits = block_text (mac (lmk_key q f.key) (mac_algorithm q.read f) (mac_start q.read f) (blocks_of (padded (mac_padding q.read f) (mac_data q.read f)))) in
    if is_digit_at q.read f.size (codes "0") then take 8 digits else digits

-- the chaining value after the data, without the closing step
unfoldable pub chain_text : ReadMessage → MacFields → List ℕ
chain_text q f = block_text (chained (mac_algorithm q.read f) (lmk_key q f.key) (mac_start q.read f) (blocks_of (mac_data q.read f)))
