-- Texts of hexadecimal digits and their bytes.
use Rattle.std.proofs.Common.{◌≡◌, ℕ, ◌*◌, ◌==◌, true, List, length, Some, None, Result, Ok, Err, if◌then◌else◌, inl, inr, refl, sym, ◌∙◌, arith}
use Rattle.std.specs.List.{AllPass, list_all}
use Rattle.std.specs.Result.{result_ok}
use Rattle.std.proofs.lemmas.Bool.{and_parts, cases_Bool, eqb-true}
use Rattle.std.proofs.lemmas.Bool.Decides.{nat_tests}
use Rattle.std.proofs.lemmas.List.Sums.{AllPass-from_list_all, list_all-from_AllPass}
use Rattle.hex.specs.Hex.{decode_sized, is_hex_digit}
use Rattle.hex.specs.declared.error.FromHexError.{FromHexError}
use Rattle.hex.proofs.HexLemmas.{IsOk-decode_sized, decode_sized-twice}
use Rattle.hsm_config.specs.Document.{hex_bytes, is_hex}

equal : (a b : ℕ) → a ≡ b → (a == b) ≡ true
equal a b e = grind (arith, nat_tests)

digits_pass : (text : List ℕ) (n : ℕ) → length text ≡ 2 * n → AllPass is_hex_digit text → is_hex (2 * n) (Some text) ≡ true
digits_pass text n same all = rw (equal (length text) (2 * n) same) (list_all-from_AllPass is_hex_digit text all)

passed_digits : (text : List ℕ) (n : ℕ) → is_hex (2 * n) (Some text) ≡ true → (length text ≡ 2 * n) × AllPass is_hex_digit text
passed_digits text n passes =
    let parts = and_parts (length text == 2 * n) (list_all is_hex_digit text) passes in
    (eqb-true (length text) (2 * n) parts.0, AllPass-from_list_all is_hex_digit text parts.1)

sized_is : (text : List ℕ) (n : ℕ) (r : Result (List ℕ) FromHexError) → decode_sized text n ≡ r
    → result_ok r ≡ (if is_hex (2 * n) (Some text) then Some (hex_bytes (Some text)) else None)
sized_is text n (Ok bytes) is =
    let digits = (IsOk-decode_sized text n).0 (rw is refl) in
    rw (digits_pass text n digits.0 digits.1, sym (decode_sized-twice text n digits.0) ∙ is) refl
sized_is text n (Err e) is =
    elim (cases_Bool (is_hex (2 * n) (Some text))) [
      | inl passes ↦ absurd (cc (is, (IsOk-decode_sized text n).1 (passed_digits text n passes)))
      | inr fails ↦ rw fails refl
    ]

-- what a text decodes to, in room for n bytes
pub hex_sized : (text : List ℕ) (n : ℕ) → result_ok (decode_sized text n) ≡ (if is_hex (2 * n) (Some text) then Some (hex_bytes (Some text)) else None)
hex_sized text n = sized_is text n (decode_sized text n) refl
