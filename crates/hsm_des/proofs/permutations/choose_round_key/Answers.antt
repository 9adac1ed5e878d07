use Rattle.std.proofs.Common.{◌∙◌, ap}
use Rattle.hsm_des.specs.Bits.{bits, pick}
use Rattle.hsm_des.specs.Tables.{round_key_choice}
use Rattle.hsm_des.proofs.BitsLemmas.{length-pick}
use Rattle.hsm_des.proofs.WordLemmas.{bits_number_at}
use Rattle.hsm_des.proofs.permutations.choose_round_key.Goals as goal

pub returns : goal.returns
unfolding round_key_choice
returns c =
    ap (bits 48) c.permute.ensures.value ∙ bits_number_at 48 (pick round_key_choice (bits 56 c.args.x)) (length-pick round_key_choice (bits 56 c.args.x))
