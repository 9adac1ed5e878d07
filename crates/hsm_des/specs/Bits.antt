-- Lists of bits. The first bit of a list is its most significant one.
use Rattle.std.specs.Prelude.{ℕ, zero, suc, ◌+◌, ◌-◌, ◌^◌, ◌&&◌, Bool, true, false, not, ◌==◌, if◌then◌else◌, List, [], ◌∷◌, map, length, nat_le, nat_lt, slice_index_or}
use Rattle.std.specs.Int.{bit_at}
use Rattle.std.specs.List.{list_all}

-- the last `width` bits of a number
unfoldable pub bits : ℕ → ℕ → List Bool
bits zero n = []
bits (suc width) n = (bit_at n width == 1) ∷ bits width n

-- the number that the bits write
abbrev pub number : List Bool → ℕ
number [] = 0
number (b ∷ bs) = (if b then 2 ^ length bs else 0) + number bs

-- exclusive-or of two bits
abbrev pub xor_bit : Bool → Bool → Bool
xor_bit true y = not y
xor_bit false y = y

-- exclusive-or bit by bit, as long as the shorter list
abbrev pub xor_bits : List Bool → List Bool → List Bool
xor_bits [] ys = []
xor_bits (x ∷ xs) [] = []
xor_bits (x ∷ xs) (y ∷ ys) = xor_bit x y ∷ xor_bits xs ys

-- the bit at a position that counts from 1
abbrev pub bit_of : List Bool → ℕ → Bool
bit_of x position = slice_index_or x (position - 1) false

-- the bits of x at the positions that the table lists
abbrev pub pick : List ℕ → List Bool → List Bool
pick table x = map (bit_of x) table

-- each entry of the table is a position from 1 to `width`
abbrev pub lists_positions : ℕ → List ℕ → Bool
lists_positions width table = list_all (λ position. nat_lt 0 position && nat_le position width) table
