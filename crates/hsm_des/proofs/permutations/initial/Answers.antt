use Rattle.std.proofs.Common.{◌∙◌, ap}
use Rattle.hsm_des.specs.Bits.{bits, pick}
use Rattle.hsm_des.specs.Tables.{initial_permutation}
use Rattle.hsm_des.proofs.BitsLemmas.{length-pick}
use Rattle.hsm_des.proofs.WordLemmas.{bits_number_at}
use Rattle.hsm_des.proofs.permutations.initial.Goals as goal

pub returns : goal.returns
unfolding initial_permutation
returns c =
    ap (bits 64) c.permute.ensures.value ∙ bits_number_at 64 (pick initial_permutation (bits 64 c.args.block)) (length-pick initial_permutation (bits 64 c.args.block))
