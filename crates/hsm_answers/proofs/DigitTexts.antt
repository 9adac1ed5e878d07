-- The values of digits.
use Rattle.std.proofs.Common.{◌≡◌, ℕ, ◌<◌, true, List, [], ◌∷◌, map, refl, arith, ap₂}
use Rattle.std.specs.Prelude.{◌&&◌}
use Rattle.std.specs.List.{list_all}
use Rattle.std.specs.Char.{is_ascii_digit, is_ascii_hexdigit}
use Rattle.std.specs.Int.Digits.{AllBelowBase}
use Rattle.std.proofs.lemmas.Bool.{and_parts}
use Rattle.std.proofs.lemmas.Bool.Decides.{nat_tests}
use Rattle.hsm_types.specs.Pins.{is_decimal}
use Rattle.hsm_nibbles.specs.Characters.{digit_value}

decimal_value : (c : ℕ) → is_ascii_digit c ≡ true → is_decimal (digit_value c) ≡ true
decimal_value c h = grind (arith, nat_tests)

nibble_value : (c : ℕ) → is_ascii_hexdigit c ≡ true → digit_value c < 16
nibble_value c h = grind (arith, nat_tests)

-- the values of decimal digits are below 10
pub decimal_values : (t : List ℕ) → list_all is_ascii_digit t ≡ true → list_all is_decimal (map digit_value t) ≡ true
decimal_values [] h = refl
decimal_values (c ∷ cs) h = let p = and_parts _ _ h in ap₂ ◌&&◌ (decimal_value c p.0) (decimal_values cs p.1)

-- the values of hexadecimal digits are below 16
pub nibble_values : (t : List ℕ) → list_all is_ascii_hexdigit t ≡ true → AllBelowBase 16 (map digit_value t)
nibble_values [] h = tt
nibble_values (c ∷ cs) h = let p = and_parts _ _ h in (nibble_value c p.0, nibble_values cs p.1)
