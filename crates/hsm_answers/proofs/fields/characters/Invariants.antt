use Rattle.std.proofs.Common.{map}
use Rattle.hsm_nibbles.specs.Characters.{hex_character}
use Rattle.hsm_nibbles.proofs.Filling.{Filled}
use Rattle.hsm_answers.proofs.fields.characters.Given as goal

abbrev pub invariant-loop-i : goal.invariant-loop-i
invariant-loop-i g l = Filled (map hex_character l.digits) l.out l.i
