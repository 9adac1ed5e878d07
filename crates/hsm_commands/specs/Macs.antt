-- MACs and chaining values of messages.
use Rattle.std.specs.Prelude.{◌≡◌, ℕ, ◌≤◌, ◌%◌, ◌==◌, Bool, true, false, not, ◌&&◌, ◌||◌, length, if◌then◌else◌, List, [], Option, Some, None, codes}
use Rattle.std.specs.Str.{bytes_eq}
use Rattle.hsm_mac.specs.declared.Alg.{Alg}
use Rattle.hsm_mac.specs.declared.Pad.{Pad}
use Rattle.hsm_mac.specs.Macs.{blocks_of, padded, chained, mac, is_length, is_bare}
use Rattle.hsm_mac.specs.States.{refuses_part, refuses_last, refuses_whole}
use Rattle.std.specs.List.{list_all}
use Rattle.std.specs.Char.{is_ascii_hexdigit}
use Rattle.hsm_rows.specs.Standing.{AreHexDigits}
use Rattle.hsm_rows.specs.Reading.{ReadText, is_end}
use Rattle.hsm_rows.specs.declared.rules.MacFields.{MacFields}
use Rattle.hsm_answers.specs.Keys.{field_text}
use Rattle.hsm_answers.specs.Macs.{is_digit_at, is_only, mac_data, mac_algorithm, mac_padding, mac_start}
use Rattle.hsm_commands.specs.declared.mac.Part.{Part}
use Rattle.hsm_commands.specs.declared.mac.Part.TheVariants.{Only, Last, Open}
use Rattle.hsm_commands.specs.declared.mac.MacAsked.{MacAsked}

-- The texts of a message that its mode and its input format speak of: no chaining value is given with a whole message.
pub record AreMacTexts (r : ReadText) (f : MacFields) : Type 0 where
  pub whole : is_only r f ≡ true → field_text r f.chain ≡ []
  pub chain : is_end (field_text r f.chain) ≡ false → AreHexDigits 16 (field_text r f.chain)
  pub short : length (field_text r f.message) ≤ 65535
  pub digits : is_digit_at r f.input (codes "1") ≡ true → list_all is_ascii_hexdigit (field_text r f.message) ≡ true
  pub even : is_digit_at r f.input (codes "1") ≡ true → length (field_text r f.message) % 2 ≡ 0

-- the part that the mode tells, after the chaining value
abbrev pub part_by : List ℕ → ℕ → Part
part_by mode start = if bytes_eq mode (codes "0") then Only else if bytes_eq mode (codes "3") then Last start else Open start

-- whether the mode ends its message
abbrev pub ends_by : List ℕ → Bool
ends_by mode = bytes_eq mode (codes "0") || bytes_eq mode (codes "3")

-- what a message asks of its data
abbrev pub mac_asked : ReadText → MacFields → MacAsked
mac_asked r f = record {
  part = part_by (field_text r f.mode) (mac_start r f);
  alg = mac_algorithm r f;
  pad = mac_padding r f;
}

-- the MAC where the data ends its message, else the chaining value after it
abbrev pub part_value : List (List ℕ) → Alg → Pad → List ℕ → Part → ℕ
part_value key alg pad bytes Only = mac key alg 0 (blocks_of (padded pad bytes))
part_value key alg pad bytes (Last start) = mac key alg start (blocks_of (padded pad bytes))
part_value key alg pad bytes (Open start) = chained alg key start (blocks_of bytes)

-- such data has no value: it is empty, or no multiple of 8 bytes where nothing pads it, or padding 3 is asked for a part of a message
abbrev pub is_uneven : Pad → List ℕ → Part → Bool
is_uneven pad bytes Only = refuses_whole pad bytes
is_uneven pad bytes (Last start) = refuses_last pad bytes
is_uneven pad bytes (Open start) = is_length pad || refuses_part bytes

-- the value of a message's data under the key
abbrev pub value_under : List (List ℕ) → ReadText → MacFields → ℕ
value_under key r f = part_value key (mac_asked r f).alg (mac_asked r f).pad (mac_data r f) (mac_asked r f).part

-- what is wrong with n bytes of data
abbrev pub refused_by : Bool → Bool → Pad → ℕ → Option ℕ
refused_by only three pad n =
    if n == 0 then Some 80
    else if (not (only || three) || is_bare pad) && not (n % 8 == 0) then Some 80
    else if is_length pad && not only then Some 80
    else None
