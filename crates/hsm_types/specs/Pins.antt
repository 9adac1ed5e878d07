-- PINs as lists of digits.
use Rattle.std.specs.Prelude.{◌≡◌, ℕ, ◌-◌, ◌≤◌, Bool, true, ◌&&◌, nat_lt, nat_le, List, length, take, drop, replicate}
use Rattle.std.specs.List.{list_all}

-- a digit of 0 to 9
abbrev pub is_decimal : ℕ → Bool
is_decimal digit = nat_lt digit 10

-- 4 to 12 decimal digits
abbrev pub is_pin : List ℕ → Bool
is_pin digits = nat_le 4 (length digits) && (nat_le (length digits) 12 && list_all is_decimal digits)

-- twelve places, of which the first hold a PIN and the others 0
pub record KeepsPin (places : List ℕ) (held : ℕ) : Type 0 where
  pub twelve : length places ≡ 12
  pub most : held ≤ 12
  pub pin : is_pin (take held places) ≡ true
  pub others : drop held places ≡ replicate (12 - held) 0
