use Rattle.std.proofs.Common.{◌∙◌, ap, ℕ}
use Rattle.hsm_des.specs.Bits.{bits, number, pick}
use Rattle.hsm_des.specs.Tables.{expansion}
use Rattle.hsm_des.proofs.WordLemmas.{bits_number_at, length-E}
use Rattle.hsm_des.proofs.permutations.expand.Goals as goal

pub returns : goal.returns
unfolding expansion
returns c =
    ap (bits 48) (c.permute.ensures.value ∙ ap (λ (n : ℕ). number (pick expansion (bits 32 n))) c.from.ensures)
    ∙ bits_number_at 48 (pick expansion (bits 32 c.args.half)) (length-E (bits 32 c.args.half))
