-- Selected digits are decimal, and the entries of an offset are nibbles.
use Rattle.std.proofs.Common.{◌≡◌, ℕ, zero, suc, ◌-◌, ◌<◌, Bool, true, false, ◌&&◌, cond, List, [], ◌∷◌, ◌++◌, take, map, filter, replicate, refl, ap₂, arith, lit<}
use Rattle.std.specs.List.{list_all}
use Rattle.std.specs.Int.Digits.{AllBelowBase}
use Rattle.std.proofs.lemmas.Bool.Decides.{nat_tests}
use Rattle.std.proofs.lemmas.Bool.{and_parts}
use Rattle.hsm_types.specs.Pins.{is_decimal}
use Rattle.hsm_nibbles.specs.Nibbles.{nibbles_of}
use Rattle.hsm_nibbles.proofs.NibbleLaws.{nibbles-below, append-below, replicate-below}
use Rattle.hsm_verify.specs.Values.{is_letter, selected, offset_digit, offset_digits, offset}

filtered_decimal : (xs : List ℕ) → list_all is_decimal (filter is_decimal xs) ≡ true
filtered_decimal [] = refl
filtered_decimal (x ∷ xs) = filtered_by x xs (is_decimal x) refl (filtered_decimal xs)
  where
    filtered_by : (x : ℕ) (xs : List ℕ) (b : Bool) → is_decimal x ≡ b → list_all is_decimal (filter is_decimal xs) ≡ true → list_all is_decimal (cond b (x ∷ filter is_decimal xs) (filter is_decimal xs)) ≡ true
    filtered_by x xs true e h = ap₂ ◌&&◌ e h
    filtered_by x xs false e h = h

letter_decimal : (x : ℕ) → x < 16 → is_decimal (x - 10) ≡ true
letter_decimal x h = grind (arith, nat_tests)

letters_decimal : (xs : List ℕ) → AllBelowBase 16 xs → list_all is_decimal (map (λ letter. letter - 10) (filter is_letter xs)) ≡ true
letters_decimal [] b = refl
letters_decimal (x ∷ xs) b = letters_by x xs (is_letter x) b.0 (letters_decimal xs b.1)
  where
    letters_by : (x : ℕ) (xs : List ℕ) (b : Bool) → x < 16 → list_all is_decimal (map (λ letter. letter - 10) (filter is_letter xs)) ≡ true
        → list_all is_decimal (map (λ letter. letter - 10) (cond b (x ∷ filter is_letter xs) (filter is_letter xs))) ≡ true
    letters_by x xs true e h = ap₂ ◌&&◌ (letter_decimal x e) h
    letters_by x xs false e h = h

all_joined : (xs ys : List ℕ) → list_all is_decimal xs ≡ true → list_all is_decimal ys ≡ true → list_all is_decimal (xs ++ ys) ≡ true
all_joined [] ys h k = k
all_joined (x ∷ xs) ys h k = let p = and_parts _ _ h in ap₂ ◌&&◌ p.0 (all_joined xs ys p.1 k)

-- what is selected from a block
pub selected_decimal : (block : ℕ) → list_all is_decimal (selected block) ≡ true
unfolding selected nibbles_of
selected_decimal block =
    all_joined (filter is_decimal (nibbles_of block)) (map (λ letter. letter - 10) (filter is_letter (nibbles_of block)))
    (filtered_decimal (nibbles_of block)) (letters_decimal (nibbles_of block) (nibbles-below 16 block))

-- the first of decimal digits
pub take_decimal : (n : ℕ) (xs : List ℕ) → list_all is_decimal xs ≡ true → list_all is_decimal (take n xs) ≡ true
take_decimal zero xs h = refl
take_decimal (suc n) [] h = refl
take_decimal (suc n) (x ∷ xs) h = let p = and_parts _ _ h in ap₂ ◌&&◌ p.0 (take_decimal n xs p.1)

digit_below : (d n : ℕ) → offset_digit d n < 16
digit_below d n = omega arith

digits_below : (ds ns : List ℕ) → AllBelowBase 16 (offset_digits ds ns)
digits_below [] ns = tt
digits_below (d ∷ ds) [] = tt
digits_below (d ∷ ds) (n ∷ ns) = (digit_below d n, digits_below ds ns)

-- digits and F
pub offset-below : (natural pin : List ℕ) (check : ℕ) → AllBelowBase 16 (offset natural pin check)
unfolding offset
offset-below natural pin check =
    append-below (offset_digits (take check pin) (take check natural)) (replicate (12 - check) 15) (digits_below (take check pin) (take check natural)) (replicate-below (12 - check) 15 (lit< tt))
