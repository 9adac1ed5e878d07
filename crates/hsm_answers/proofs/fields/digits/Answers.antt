use Rattle.std.proofs.Common.{◌∙◌, ap}
use Rattle.std.specs.List.{list_all}
use Rattle.hsm_types.specs.Pins.{is_decimal}
use Rattle.hsm_answers.proofs.DigitTexts.{decimal_values}
use Rattle.hsm_answers.proofs.fields.digits.Goals as goal

pub returns-clause-decimal : goal.returns-clause-decimal
returns-clause-decimal g c = ap (list_all is_decimal) c.digit_values.ensures ∙ decimal_values c.args.text.now c.requires.1
