use Rattle.std.proofs.Common.{ℕ, List, sym, subst}
use Rattle.std.specs.Int.Digits.{AllBelowBase}
use Rattle.hsm_answers.proofs.DigitTexts.{nibble_values}
use Rattle.hsm_answers.proofs.fields.nibbles.Goals as goal

pub returns-clause-bounds : goal.returns-clause-bounds
returns-clause-bounds c =
    let P : List ℕ → Type 0 = λ x. AllBelowBase 16 x in
    subst P (sym c.digit_values.ensures) (nibble_values c.args.text.now c.requires.1)
