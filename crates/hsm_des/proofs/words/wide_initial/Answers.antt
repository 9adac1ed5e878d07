use Rattle.std.proofs.Common.{◌∙◌}
use Rattle.hsm_des.specs.Bits.{bits}
use Rattle.hsm_des.proofs.BitsLemmas.{length-bits}
use Rattle.hsm_des.proofs.Rounds.{half_held, is_wide}
use Rattle.hsm_des.proofs.words.wide_initial.Goals as goal

pub returns : goal.returns
returns c =
    let left = c.initial-left.result.0 in
    let right = c.initial-left.result.1 in
    record {
      left = half_held c.wide.result (bits 32 left) (length-bits 32 left) c.wide.ensures ∙ c.initial-left.ensures.left;
      right = half_held c.wide-2.result (bits 32 right) (length-bits 32 right) c.wide-2.ensures ∙ c.initial-left.ensures.right;
      left_wide = is_wide c.wide.result (bits 32 left) (length-bits 32 left) c.wide.ensures;
      right_wide = is_wide c.wide-2.result (bits 32 right) (length-bits 32 right) c.wide-2.ensures;
    }
