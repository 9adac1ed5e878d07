use Rattle.std.proofs.Common.{◌≡◌, map, take}
use Rattle.hsm_nibbles.specs.Characters.{digit_value}
use Rattle.hsm_commands.proofs.value_card.account_digits.Given as goal

abbrev pub invariant-loop-character : goal.invariant-loop-character
invariant-loop-character l = l.values.items ≡ map digit_value (take l.character-index l.characters)
