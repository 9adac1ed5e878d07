use Rattle.std.proofs.Common.{refl}
use Rattle.hsm_lmk.proofs.OpenAnswers.{blank_is_set}
use Rattle.hsm_lmk.proofs.blank_set.Goals as goal

pub invariant_of-result : goal.invariant_of-result
invariant_of-result c = blank_is_set c.two.result _ c.two.ensures refl
