-- The digits of validation data.
use Rattle.std.proofs.Common.{◌≡◌, ℕ, ◌+◌, ◌*◌, ◌<◌, Bool, true, false, ◌||◌, ◌==◌, cond, List, [], ◌∷◌, length, drop, flat_map, refl, arith, length-append, length-drop}
use Rattle.std.specs.Prelude.{count_by}
use Rattle.std.specs.List.{list_all}
use Rattle.std.specs.Char.{is_ascii_hexdigit}
use Rattle.std.specs.Int.Digits.{AllBelowBase}
use Rattle.std.proofs.lemmas.Bool.{and_parts}
use Rattle.std.proofs.lemmas.Bool.Decides.{nat_tests}
use Rattle.std.proofs.lemmas.List.Sums.{sum_by-cons}
use Rattle.hsm_types.specs.Pins.{is_decimal}
use Rattle.hsm_nibbles.specs.Characters.{digit_value}
use Rattle.hsm_nibbles.proofs.NibbleLaws.{append-below}
use Rattle.hsm_verify.proofs.ValueLaws.{decimals_below, drop-below}
use Rattle.hsm_rows.specs.Forms.{hex_or_n, is_n}
use Rattle.hsm_rows.specs.Standing.{IsValidation}
use Rattle.hsm_answers.specs.Values.{validation_digit}

-- a digit, or five digits for N
digit_length : (account : List ℕ) (c : ℕ) (b : Bool) → (c == 78) ≡ b → length account ≡ 12 → length (cond b (drop 7 account) (digit_value c ∷ [])) ≡ 1 + 4 * cond (is_n c) 1 0
digit_length account c true e twelve =
    let h : is_n c ≡ true = grind (arith, nat_tests) in
    let five : length (drop 7 account) ≡ 5 = omega (arith, length-drop 7 account) in
    rw h five
digit_length account c false e twelve =
    let h : is_n c ≡ false = grind (arith, nat_tests) in
    rw h refl

-- four more digits than characters for each N
pub digits_length : (account xs : List ℕ) → length account ≡ 12 → length (flat_map (validation_digit account) xs) ≡ length xs + 4 * count_by is_n xs
digits_length account [] twelve = refl
digits_length account (x ∷ xs) twelve =
    let first : length (validation_digit account x) ≡ 1 + 4 * cond (is_n x) 1 0 = digit_length account x (x == 78) refl twelve in
    let rest = digits_length account xs twelve in
    let joined = length-append (validation_digit account x) (flat_map (validation_digit account) xs) in
    let counted : count_by is_n (x ∷ xs) ≡ cond (is_n x) 1 0 + count_by is_n xs = sum_by-cons (λ (c : ℕ). cond (is_n c) 1 0) x xs in
    omega (arith, first, rest, joined, counted)

nibble_value : (c : ℕ) → is_ascii_hexdigit c ≡ true → digit_value c < 16
nibble_value c h = grind (arith, nat_tests)

or_left : (a b : Bool) → (a || b) ≡ true → b ≡ false → a ≡ true
or_left true b h k = refl
or_left false b h k = let z : ⊥ = cc in absurd z

digit_below : (account : List ℕ) (c : ℕ) (b : Bool) → (c == 78) ≡ b → list_all is_decimal account ≡ true → hex_or_n c ≡ true → AllBelowBase 16 (cond b (drop 7 account) (digit_value c ∷ []))
digit_below account c true e a h = drop-below 7 account (decimals_below account a)
digit_below account c false e a h =
    let no : is_n c ≡ false = grind (arith, nat_tests) in
    (nibble_value c (or_left (is_ascii_hexdigit c) (is_n c) h no), tt)

-- all of them are nibbles
pub digits_below : (account xs : List ℕ) → list_all is_decimal account ≡ true → list_all hex_or_n xs ≡ true → AllBelowBase 16 (flat_map (validation_digit account) xs)
digits_below account [] a h = tt
digits_below account (x ∷ xs) a h =
    let p = and_parts _ _ h in
    append-below (validation_digit account x) (flat_map (validation_digit account) xs) (digit_below account x (x == 78) refl a p.0) (digits_below account xs a p.1)

-- validation data has sixteen digits
pub sixteen : (account text : List ℕ) → length account ≡ 12 → IsValidation text → length (flat_map (validation_digit account) text) ≡ 16
sixteen account text twelve v =
    let long : length text ≡ 12 = v.long in
    let one : count_by is_n text ≡ 1 = v.one in
    omega (arith, digits_length account text twelve, long, one)
