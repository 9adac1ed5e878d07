-- Decimal numbers read digit by digit.
use Rattle.std.proofs.Common.{◌≡◌, nat_le, false, None, Some, ℕ, ◌+◌, ◌-◌, ◌*◌, ◌≤◌, ◌<◌, List, [], ◌∷◌, ◌++◌, length, take, drop, get_or, refl, sym, ap, ◌∙◌, arith}
use Rattle.std.proofs.lemmas.Bool.{lt-leb}
use Rattle.std.proofs.lemmas.List.{take_more, take-append-drop}
use Rattle.hsm_rows.specs.Forms.{decimal_from}
use Rattle.hsm_session.specs.Scripts.{number_within}

decimal_from-append : (v : ℕ) (a b : List ℕ) → decimal_from v (a ++ b) ≡ decimal_from (decimal_from v a) b
decimal_from-append v [] b = refl
decimal_from-append v (digit ∷ a) b = decimal_from-append (v * 10 + (digit - 48)) a b

-- more digits make no number less
decimal_from-least : (v : ℕ) (text : List ℕ) → v ≤ decimal_from v text
decimal_from-least v [] = omega arith
decimal_from-least v (digit ∷ text) = omega (arith, decimal_from-least (v * 10 + (digit - 48)) text)

-- one more digit
pub decimal_from-more : (text : List ℕ) (i : ℕ) → i < length text → decimal_from 0 (take (i + 1) text) ≡ decimal_from 0 (take i text) * 10 + (get_or text i 0 - 48)
decimal_from-more text i within = ap (decimal_from 0) (take_more text i 0 within) ∙ decimal_from-append 0 (take i text) (get_or text i 0 ∷ [])

-- the number of the first digits is no greater than that of all
pub decimal_from-front : (text : List ℕ) (i : ℕ) → decimal_from 0 (take i text) ≤ decimal_from 0 text
decimal_from-front text i =
    let whole : decimal_from (decimal_from 0 (take i text)) (drop i text) ≡ decimal_from 0 text =
    sym (decimal_from-append 0 (take i text) (drop i text)) ∙ ap (decimal_from 0) (take-append-drop i text) in
    omega (arith, decimal_from-least (decimal_from 0 (take i text)) (drop i text), whole)

-- a greater number than asked
pub number_above : (most : ℕ) (text : List ℕ) → most < decimal_from 0 text → number_within most text ≡ None
unfolding number_within
number_above most text above =
    let no : nat_le (decimal_from 0 text) most ≡ false = lt-leb (decimal_from 0 text) most above in
    grind arith

-- a number is at most as great as asked
pub number_below : (most : ℕ) (text : List ℕ) (number : ℕ) → number_within most text ≡ Some number → number ≤ most
unfolding number_within
number_below most text number is = grind arith
