use Rattle.std.proofs.Common.{◌≡◌, take, flat_map}
use Rattle.hsm_answers.specs.Values.{validation_digit}
use Rattle.hsm_commands.proofs.value_pin.validation_digits.Given as goal

abbrev pub invariant-loop-character : goal.invariant-loop-character
invariant-loop-character l = l.digits.items ≡ flat_map (validation_digit l.account) (take l.character-index l.text)
