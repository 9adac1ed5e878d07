-- The digits at the front of a clear PIN's text.
use Rattle.std.proofs.Common.{◌≡◌, ℕ, suc, ◌+◌, ◌<◌, ◌≤◌, Bool, true, false, ◌&&◌, cond, List, [], ◌∷◌, ◌++◌, length, get_or, take, drop, map, refl, subst, ap, ap₂, sym, ◌∙◌, arith, drop-cons, append_assoc}
use Rattle.std.specs.Prelude.{Option, Some, None, if◌then◌else◌, nat_le, nat_lt}
use Rattle.std.specs.List.{list_all, prefix_len}
use Rattle.std.specs.Char.{is_ascii_digit}
use Rattle.std.proofs.lemmas.Bool.Decides.{nat_tests}
use Rattle.hsm_types.specs.Pins.{is_decimal, is_pin}
use Rattle.hsm_nibbles.specs.Characters.{digit_value}
use Rattle.hsm_commands.specs.Values.{clear_digits, clear_fault}

-- the digits of a text by its first character
taken : (x : ℕ) (xs : List ℕ) (b : Bool) → is_ascii_digit x ≡ b → clear_digits (x ∷ xs) ≡ cond b (digit_value x ∷ clear_digits xs) []
taken x xs true h =
    let n = prefix_len is_ascii_digit xs in
    let next : 1 + n ≡ suc n = omega arith in
    ap (λ (b : Bool). map digit_value (take (cond b (1 + n) 0) (x ∷ xs))) h
    ∙ ap (λ (k : ℕ). map digit_value (take k (x ∷ xs))) next
taken x xs false h = ap (λ (b : Bool). map digit_value (take (cond b (1 + prefix_len is_ascii_digit xs) 0) (x ∷ xs))) h

-- one more digit
pub clear_more : (text digits : List ℕ) (i : ℕ) → i < length text → is_ascii_digit (get_or text i 0) ≡ true → clear_digits text ≡ digits ++ clear_digits (drop i text)
    → clear_digits text ≡ (digits ++ digit_value (get_or text i 0) ∷ []) ++ clear_digits (drop (i + 1) text)
clear_more text digits i h d e =
    let next : suc i ≡ i + 1 = omega arith in
    e
    ∙ (ap (λ (xs : List ℕ). digits ++ clear_digits xs) (drop-cons text i 0 h)
    ∙ (ap (λ (xs : List ℕ). digits ++ xs) (taken (get_or text i 0) (drop (suc i) text) true d)
    ∙ (ap (λ (n : ℕ). digits ++ digit_value (get_or text i 0) ∷ clear_digits (drop n text)) next
    ∙ sym (append_assoc digits (digit_value (get_or text i 0) ∷ []) (clear_digits (drop (i + 1) text))))))

digit_decimal : (c : ℕ) → is_ascii_digit c ≡ true → is_decimal (digit_value c) ≡ true
digit_decimal c h = grind (arith, nat_tests)

decimal_by : (x : ℕ) (digits : List ℕ) (b : Bool) → is_ascii_digit x ≡ b → list_all is_decimal digits ≡ true → list_all is_decimal (cond b (digit_value x ∷ digits) []) ≡ true
decimal_by x digits true h more = ap₂ ◌&&◌ (digit_decimal x h) more
decimal_by x digits false h more = refl

-- they are decimal
all_decimal : (text : List ℕ) → list_all is_decimal (clear_digits text) ≡ true
all_decimal [] = refl
all_decimal (x ∷ xs) = ap (list_all is_decimal) (taken x xs (is_ascii_digit x) refl) ∙ decimal_by x (clear_digits xs) (is_ascii_digit x) refl (all_decimal xs)

longer_by : (x : ℕ) (digits xs : List ℕ) (b : Bool) → length digits ≤ length xs → length (cond b (x ∷ digits) []) ≤ length (x ∷ xs)
longer_by x digits xs true h = omega (arith, h)
longer_by x digits xs false h = omega arith

-- and no more than the characters
no_more : (text : List ℕ) → length (clear_digits text) ≤ length text
no_more [] = omega arith
no_more (x ∷ xs) =
    let same = ap length (taken x xs (is_ascii_digit x) refl) in
    let P : ℕ → Type 0 = λ n. n ≤ length (x ∷ xs) in
    subst P (sym same) (longer_by (digit_value x) (clear_digits xs) xs (is_ascii_digit x) (no_more xs))

few_by : (n : ℕ) (a : Bool) → n ≤ 12 → a ≡ true → (nat_le 4 n && (nat_le n 12 && a)) ≡ false → nat_lt n 4 ≡ true
few_by n true h e k = grind (arith, nat_tests)
few_by n false h e k = let z : ⊥ = cc in absurd z

not_pin : {A : Type 0} (b : Bool) (o : Option A) (x : A) → o ≡ (if b then Some x else None) → o ≡ None → b ≡ false
not_pin true o x h k = let z : ⊥ = cc in absurd z
not_pin false o x h k = refl

-- no PIN: they are fewer than 4
pub too_few : (text : List ℕ) (found : Option (List ℕ)) → length text ≤ 12 → found ≡ (if is_pin (clear_digits text) then Some (clear_digits text) else None) → found ≡ None → Some 24 ≡ clear_fault text
too_few text found h e k =
    let n = length (clear_digits text) in
    let most : n ≤ 12 = omega (arith, h, no_more text) in
    let few = few_by n (list_all is_decimal (clear_digits text)) most (all_decimal text) (not_pin (is_pin (clear_digits text)) found (clear_digits text) e k) in
    sym (ap (λ (b : Bool). if b then Some 24 else None) few)
