use Rattle.std.proofs.Common.{◌≡◌, map, length}
use Rattle.std.specs.Str.{bytes_eq}
use Rattle.hsm_nibbles.specs.Characters.{digit_value}
use Rattle.hsm_answers.proofs.fields.same_digits.Given as goal

abbrev pub invariant-loop-left : goal.invariant-loop-left
invariant-loop-left l = bytes_eq (map digit_value l.fn.given) (map digit_value l.fn.written) ≡ bytes_eq (map digit_value l.left) (map digit_value l.right)

abbrev pub decreases-loop-left : goal.decreases-loop-left
decreases-loop-left l = length l.left
