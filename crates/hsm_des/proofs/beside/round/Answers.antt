use Rattle.std.proofs.Common.{◌∙◌, Bool, List, ap}
use Rattle.hsm_des.specs.Bits.{xor_bits}
use Rattle.hsm_des.specs.Words.{half_of}
use Rattle.hsm_des.proofs.Rounds.{half_of-xor, wide-xor}
use Rattle.hsm_des.proofs.beside.round.Goals as goal

pub returns : goal.returns
returns c =
    let left = c.args.halves.0 in
    let right = c.args.halves.1 in
    let mixed = c.cipher_function.result in
    record {
      halves = ap (λ (bs : List Bool). record { left = half_of right; right = bs })
          (half_of-xor left mixed ∙ ap (λ (m : List Bool). xor_bits (half_of left) m) c.cipher_function.ensures.half);
      wide = (c.requires.1, wide-xor left mixed c.requires.0 c.cipher_function.ensures.wide);
    }
