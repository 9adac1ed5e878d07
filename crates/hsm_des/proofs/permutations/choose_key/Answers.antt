use Rattle.std.proofs.Common.{◌∙◌, ap}
use Rattle.hsm_des.specs.Bits.{bits, pick}
use Rattle.hsm_des.specs.Tables.{key_choice}
use Rattle.hsm_des.proofs.BitsLemmas.{length-pick}
use Rattle.hsm_des.proofs.WordLemmas.{bits_number_at}
use Rattle.hsm_des.proofs.permutations.choose_key.Goals as goal

pub returns-clause-bits : goal.returns-clause-bits
unfolding key_choice
returns-clause-bits c =
    ap (bits 56) c.permute.ensures.value ∙ bits_number_at 56 (pick key_choice (bits 64 c.args.key)) (length-pick key_choice (bits 64 c.args.key))
