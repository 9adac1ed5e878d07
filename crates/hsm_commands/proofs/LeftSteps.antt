-- Blocks with a drawn fill, and PINs as they are shown.
use Rattle.std.proofs.Common.{◌≡◌, ℕ, zero, suc, ◌+◌, ◌-◌, true, List, [], ◌∷◌, ◌++◌, length, take, drop, replicate, refl, ap, sym, subst, ◌∙◌, lit<}
use Rattle.std.specs.Int.Digits.{AllBelowBase}
use Rattle.std.proofs.Math.Seq.{take-append_seam}
use Rattle.std.proofs.lemmas.List.{drop-replicate}
use Rattle.hsm_types.specs.Pins.{is_pin}
use Rattle.hsm_nibbles.specs.Nibbles.{block_of}
use Rattle.hsm_nibbles.proofs.NibbleLaws.{append-below, replicate-below}
use Rattle.hsm_verify.proofs.ValueLaws.{decimals_below, pin_decimal}
use Rattle.hsm_pinblock.specs.declared.Format.{Format}
use Rattle.hsm_pinblock.specs.declared.Format.TheVariants.{F01, F03, F05, F47}
use Rattle.hsm_pinblock.specs.Blocks.{block_of_pin, mixed}
use Rattle.hsm_rows.specs.declared.settings.Module.{Module}
use Rattle.hsm_answers.specs.Draws.{drawn_fill}
use Rattle.hsm_answers.specs.Pins.{fill_length}
use Rattle.hsm_commands.specs.Values.{block_drawn}

fill_count : (m : Module) (format : Format) (place n : ℕ) → length (drawn_fill m format place n) ≡ n
fill_count m format place zero = refl
fill_count m format place (suc n) = ap suc (fill_count m format (place + 1) n)

front : (xs ys : List ℕ) (n : ℕ) → length xs ≡ n → take n (xs ++ ys) ≡ take n xs
front xs ys n h =
    let P : ℕ → Type 0 = λ k. take k (xs ++ ys) ≡ take k xs in
    subst P h (take-append_seam xs ys ∙ sym (take_whole xs))
  where
    take_whole : (xs : List ℕ) → take (length xs) xs ≡ xs
    take_whole [] = refl
    take_whole (x ∷ xs) = ap (λ (zs : List ℕ). x ∷ zs) (take_whole xs)

-- the fill that follows the drawn nibbles isn't looked at
pub same_block : (m : Module) (format : Format) (pin account : List ℕ) (place : ℕ) (rest : List ℕ)
    → block_of_pin format pin account (drawn_fill m format place (fill_length format pin) ++ rest) ≡ block_drawn m format pin account place
unfolding block_of_pin
same_block m F01 pin account place rest = refl
same_block m F03 pin account place rest = refl
same_block m F05 pin account place rest =
    let n = 14 - length pin in
    ap (λ (xs : List ℕ). block_of (mixed F05 account (1 ∷ length pin ∷ pin ++ xs))) (front (drawn_fill m F05 place n) rest n (fill_count m F05 place n))
same_block m F47 pin account place rest =
    let n = 14 - length pin in
    ap (λ (xs : List ℕ). block_of (mixed F47 account (3 ∷ length pin ∷ pin ++ xs))) (front (drawn_fill m F47 place n) rest n (fill_count m F47 place n))

-- F after the PIN's digits
pub rest_of_twelve : (n : ℕ) → drop {A = ℕ} n (replicate 12 15) ≡ replicate (12 - n) 15
rest_of_twelve n = drop-replicate n 12 15

-- all of them are nibbles
pub twelve_below : (pin : List ℕ) → is_pin pin ≡ true → AllBelowBase 16 (pin ++ replicate (12 - length pin) 15)
twelve_below pin h = append-below pin (replicate (12 - length pin) 15) (decimals_below pin (pin_decimal pin h)) (replicate-below (12 - length pin) 15 (lit< tt))
