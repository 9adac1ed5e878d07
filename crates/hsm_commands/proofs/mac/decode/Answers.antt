use Rattle.std.proofs.Common.{◌≡◌, length, ap, ◌∙◌}
use Rattle.std.specs.Prelude.{Ok}
use Rattle.hsm_nibbles.specs.Characters.{bytes_of_hex}
use Rattle.hex.specs.Hex.{decode_sized}
use Rattle.hsm_commands.proofs.HexSteps.{decodes}
use Rattle.hsm_commands.proofs.mac.decode.Goals as goal

pub returns : goal.returns
returns c =
    let text = c.args.digits.now in
    let d : decode_sized text (length c.args.bytes.now) ≡ Ok (bytes_of_hex text) =
    ap (decode_sized text) c.requires.room ∙ decodes text c.requires.hexadecimal c.requires.even in
    let h = c.decode_to_slice.ensures.value in
    let e = rw d at h in
    e.1
