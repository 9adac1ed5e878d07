use Rattle.std.proofs.Common.{ap, arith, length, length-append}
use Rattle.hsm_answers.proofs.Lengths.{hex_length}
use Rattle.hsm_answers.proofs.texts.put_key.Goals as goal

pub returns-clause-grown : goal.returns-clause-grown
returns-clause-grown c =
    let tagged = simp length-append at (ap length c.put.ensures) in
    let written = simp (length-append, hex_length) at (ap length c.put_hex.ensures) in
    omega (arith, tagged, written, c.tag_of.ensures.short, c.as_slice.ensures.fits)
