-- Odd parity of the bytes of a key part.
use Rattle.std.specs.Prelude.{◌≡◌, ℕ, Bool, true, ◌/◌, ◌%◌, ◌==◌, if◌then◌else◌, List, bit_xor, count_ones, map}

-- whether the number of one bits is odd
abbrev pub has_odd_parity : ℕ → Bool
has_odd_parity byte = count_ones byte % 2 == 1

-- the number of one bits is odd
abbrev pub IsOdd : ℕ → Type 0
IsOdd byte = has_odd_parity byte ≡ true

-- the upper seven bits of a byte
abbrev pub upper : ℕ → ℕ
upper byte = byte / 2

-- the byte of odd parity with the same upper seven bits
abbrev pub adjusted_byte : ℕ → ℕ
adjusted_byte byte = if has_odd_parity byte then byte else bit_xor byte 1

-- the part with odd bytes and the same upper seven bits
abbrev pub adjusted : List ℕ → List ℕ
adjusted part = map adjusted_byte part
