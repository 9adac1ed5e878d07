use Rattle.std.proofs.Common.{◌∙◌, Bool, List, ap}
use Rattle.hsm_des.specs.Bits.{bits, number}
use Rattle.hsm_des.specs.Des.{cipher, encrypted}
use Rattle.hsm_des.proofs.permutations.encrypt.Goals as goal

pub returns : goal.returns
unfolding encrypted
returns c = c.cipher.ensures ∙ ap (λ (keys : List (List Bool)). number (cipher keys (bits 64 c.args.block))) c.round_keys.ensures
