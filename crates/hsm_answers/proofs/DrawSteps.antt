-- Digits and fill that are drawn place by place.
use Rattle.std.proofs.Common.{◌≡◌, ℕ, zero, suc, ◌+◌, ◌%◌, ◌≤◌, Bool, true, ◌&&◌, not, ◌||◌, List, [], ◌∷◌, ◌++◌, length, replicate, refl, ap, ap₂, ◌∙◌, arith}
use Rattle.std.specs.Prelude.{nat_le}
use Rattle.std.specs.List.{list_all}
use Rattle.std.proofs.lemmas.Bool.Decides.{nat_tests}
use Rattle.hsm_types.specs.Pins.{is_decimal, is_pin}
use Rattle.hsm_pinblock.specs.declared.Format.{Format}
use Rattle.hsm_pinblock.specs.declared.Format.TheVariants.{F01, F03, F05, F47}
use Rattle.hsm_pinblock.specs.Blocks.{is_fill, takes_fill, permits_fill}
use Rattle.hsm_rows.specs.declared.settings.Module.{Module}
use Rattle.hsm_answers.specs.Draws.{word, drawn_digits, fill_nibble, drawn_fill}

-- one more digit
pub digits_more : (m : Module) (place n : ℕ) → drawn_digits m place (n + 1) ≡ drawn_digits m place n ++ (word m (place + n) % 10) ∷ []
digits_more m place zero = let e : place + 0 ≡ place = omega arith in rw e refl
digits_more m place (suc n) =
    let e : suc n + 1 ≡ suc (n + 1) = omega arith in
    let at : place + 1 + n ≡ place + suc n = omega arith in
    ap (drawn_digits m place) e
    ∙ (ap (λ (xs : List ℕ). word m place % 10 ∷ xs) (digits_more m (place + 1) n)
    ∙ ap (λ (k : ℕ). word m place % 10 ∷ (drawn_digits m (place + 1) n ++ (word m k % 10) ∷ [])) at)

-- one more nibble of fill
pub fill_more : (m : Module) (format : Format) (place n : ℕ) → drawn_fill m format place (n + 1) ≡ drawn_fill m format place n ++ fill_nibble format (word m (place + n)) ∷ []
fill_more m format place zero = let e : place + 0 ≡ place = omega arith in rw e refl
fill_more m format place (suc n) =
    let e : suc n + 1 ≡ suc (n + 1) = omega arith in
    let at : place + 1 + n ≡ place + suc n = omega arith in
    ap (drawn_fill m format place) e
    ∙ (ap (λ (xs : List ℕ). fill_nibble format (word m place) ∷ xs) (fill_more m format (place + 1) n)
    ∙ ap (λ (k : ℕ). fill_nibble format (word m place) ∷ (drawn_fill m format (place + 1) n ++ fill_nibble format (word m k) ∷ [])) at)

pub digits_length : (m : Module) (place n : ℕ) → length (drawn_digits m place n) ≡ n
digits_length m place zero = refl
digits_length m place (suc n) = ap suc (digits_length m (place + 1) n)

digit_decimal : (w : ℕ) → is_decimal (w % 10) ≡ true
digit_decimal w = grind (arith, nat_tests)

digits_decimal : (m : Module) (place n : ℕ) → list_all is_decimal (drawn_digits m place n) ≡ true
digits_decimal m place zero = refl
digits_decimal m place (suc n) = ap₂ ◌&&◌ (digit_decimal (word m place)) (digits_decimal m (place + 1) n)

at_least : (a b : ℕ) → a ≤ b → nat_le a b ≡ true
at_least a b h = grind (arith, nat_tests)

-- 4 to 12 of them are a PIN
pub digits_pin : (m : Module) (place n : ℕ) → 4 ≤ n → n ≤ 12 → is_pin (drawn_digits m place n) ≡ true
digits_pin m place n least most =
    let long = digits_length m place n in
    rw long (ap₂ ◌&&◌ (at_least 4 n least) (ap₂ ◌&&◌ (at_least n 12 most) (digits_decimal m place n)))

nibble_fill : (format : Format) (w : ℕ) → is_fill format (fill_nibble format w) ≡ true
nibble_fill F01 w = refl
nibble_fill F03 w = refl
nibble_fill F05 w = grind (arith, nat_tests)
nibble_fill F47 w = ap₂ ◌&&◌ (at_least 10 (10 + w % 6) (omega arith)) (at_least (10 + w % 6) 15 (omega arith))

last_fill : (format : Format) → is_fill format 15 ≡ true
last_fill F01 = refl
last_fill F03 = refl
last_fill F05 = refl
last_fill F47 = refl

rest_fill : (format : Format) (n : ℕ) → list_all (is_fill format) (replicate n 15) ≡ true
rest_fill format zero = refl
rest_fill format (suc n) = ap₂ ◌&&◌ (last_fill format) (rest_fill format n)

all_fill : (m : Module) (format : Format) (place n k : ℕ) → list_all (is_fill format) (drawn_fill m format place n ++ replicate k 15) ≡ true
all_fill m format place zero k = rest_fill format k
all_fill m format place (suc n) k = ap₂ ◌&&◌ (nibble_fill format (word m place)) (all_fill m format (place + 1) n k)

or_true : (b : Bool) → (b || true) ≡ true
or_true b = grind arith

-- the fill is permitted
pub fill_permitted : (m : Module) (format : Format) (place n k : ℕ) → permits_fill format (drawn_fill m format place n ++ replicate k 15) ≡ true
fill_permitted m format place n k = ap (λ (b : Bool). not (takes_fill format) || b) (all_fill m format place n k) ∙ or_true (not (takes_fill format))
