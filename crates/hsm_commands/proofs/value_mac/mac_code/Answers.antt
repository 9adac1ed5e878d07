use Rattle.std.proofs.Common.{◌∙◌}
use Rattle.hsm_commands.specs.Request.{texts_of}
use Rattle.hsm_commands.proofs.MacLaws.{fault_is}
use Rattle.hsm_commands.proofs.value_mac.mac_code.Goals as goal

pub returns : goal.returns
returns c =
    let found = rw (c.same_text.ensures, c.same_text-2.ensures, c.mac_padding.ensures, c.data_length-n.ensures, c.text_of-mode.ensures) at c.refused_by.ensures in
    found ∙ fault_is (texts_of c.args.request.now) c.args.f.now
