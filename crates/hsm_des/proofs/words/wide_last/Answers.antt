use Rattle.std.proofs.Common.{◌∙◌, ◌++◌, Bool, List, ap₂}
use Rattle.hsm_des.specs.Bits.{number, pick}
use Rattle.hsm_des.specs.Tables.{final_permutation}
use Rattle.hsm_des.proofs.words.wide_last.Goals as goal

pub returns : goal.returns
returns c =
    c.last.ensures
    ∙ ap₂ (λ (l r : List Bool). number (pick final_permutation (l ++ r))) c.narrow.ensures c.narrow-2.ensures
