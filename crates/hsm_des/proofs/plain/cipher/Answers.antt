use Rattle.std.proofs.Common.{refl}
use Rattle.hsm_des.specs.Des.{cipher}
use Rattle.hsm_des.proofs.plain.cipher.Goals as goal

pub returns : goal.returns
unfolding cipher
returns c =
    rw (c.number_of.ensures, c.last.ensures, c.after_rounds.ensures, c.initial.ensures, c.bits_of.ensures) refl
