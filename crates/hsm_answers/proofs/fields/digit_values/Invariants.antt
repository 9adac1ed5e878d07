use Rattle.std.proofs.Common.{map}
use Rattle.hsm_nibbles.specs.Characters.{digit_value}
use Rattle.hsm_nibbles.proofs.Filling.{Filled}
use Rattle.hsm_answers.proofs.fields.digit_values.Given as goal

abbrev pub invariant-loop-i : goal.invariant-loop-i
invariant-loop-i g l = Filled (map digit_value l.text) l.out l.i
