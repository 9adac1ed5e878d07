-- Hexadecimal characters.
use Rattle.std.specs.Prelude.{ℕ, ◌+◌, ◌-◌, ◌*◌, ◌/◌, ◌%◌, if◌then◌else◌, nat_lt, nat_le, List, [], ◌∷◌}

-- the upper-case character of a digit below 16
abbrev pub hex_character : ℕ → ℕ
hex_character digit = if nat_lt digit 10 then 48 + digit else 55 + digit

-- the digit of a hexadecimal character of either case
abbrev pub digit_value : ℕ → ℕ
digit_value c = if nat_le c 57 then c - 48 else if nat_le c 70 then c - 55 else c - 87

-- the upper-case characters that write bytes, two a byte
abbrev pub hex_of_bytes : List ℕ → List ℕ
hex_of_bytes [] = []
hex_of_bytes (byte ∷ bytes) = hex_character (byte / 16) ∷ hex_character (byte % 16) ∷ hex_of_bytes bytes

-- the bytes that hexadecimal characters name, two a byte
abbrev pub bytes_of_hex : List ℕ → List ℕ
bytes_of_hex [] = []
bytes_of_hex (a ∷ []) = []
bytes_of_hex (a ∷ b ∷ more) = (digit_value a * 16 + digit_value b) ∷ bytes_of_hex more
