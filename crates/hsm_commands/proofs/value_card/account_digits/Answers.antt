use Rattle.std.proofs.Common.{◌≡◌, ◌-◌, true, ℕ, List, length, take, map, ap, sym, ◌∙◌, subst, take_all}
use Rattle.std.specs.List.{list_all}
use Rattle.hsm_types.specs.Pins.{is_decimal}
use Rattle.hsm_nibbles.specs.Characters.{digit_value}
use Rattle.hsm_answers.proofs.DigitTexts.{decimal_values}
use Rattle.hsm_commands.proofs.value_card.account_digits.Goals as goal

pub returns-clause-digits : goal.returns-clause-digits
returns-clause-digits c =
    c.loop-character.invariant
    ∙ ap (map digit_value) (take_all c.loop-character.character-index c.split_at.result.0.now c.loop-character-test.false ∙ c.split_at.ensures.front)

pub returns-clause-decimal : goal.returns-clause-decimal
returns-clause-decimal c =
    let account = c.args.account.now in
    subst (λ (xs : List ℕ). list_all is_decimal xs ≡ true) (sym (returns-clause-digits c))
    (decimal_values (take (length account - 1) account) c.requires.digits)
