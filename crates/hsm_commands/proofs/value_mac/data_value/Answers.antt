use Rattle.std.proofs.Common.{◌≡◌, true, false, ◌∙◌}
use Rattle.hsm_commands.specs.Request.{texts_of}
use Rattle.hsm_commands.proofs.MacLaws.{even_data}
use Rattle.hsm_commands.proofs.value_mac.data_value.Goals as goal

pub unreachable-requires : goal.unreachable-requires
unreachable-requires c =
    let even = even_data (texts_of c.args.request.now) c.args.f.now c.requires.sound in
    let refused = rw (c.mac_asked-asked.ensures, c.same_text-hexadecimal.ensures, c.text_of.ensures, c.text_of-2.ensures) at c.in-Err.ensures.refused in
    let z : true ≡ false = refused ∙ even in
    cc
