use Rattle.std.proofs.Common.{sym, ◌∙◌}
use Rattle.hsm_commands.specs.Request.{message_of}
use Rattle.hsm_commands.proofs.KeySteps.{lmk_holds}
use Rattle.hsm_commands.proofs.key_checks.check_lmk.Goals as goal

pub returns-in-Ok-clause-key : goal.returns-in-Ok-clause-key
returns-in-Ok-clause-key c =
    let left = rw c.text_of-text.ensures at (sym c.is_left_out.ensures ∙ c.if-is_left_out.false) in
    let opened = rw (c.text_of-text.ensures, c.as_slice-sets.ensures.value) at c.in-Ok.ensures in
    lmk_holds (message_of c.args.request.now) c.args.field c.args.asked.now c.in-Ok.key c.requires.ty left opened.fault opened.key opened.long opened.scheme
