use Rattle.std.proofs.Common.{sym, ◌∙◌}
use Rattle.hsm_commands.specs.Request.{texts_of}
use Rattle.hsm_commands.proofs.JoinSteps.{joined_rest}
use Rattle.hsm_commands.proofs.components.+joined_bytes.Goals as goal

pub returns-then-is_empty-clause-bytes : goal.returns-then-is_empty-clause-bytes
returns-then-is_empty-clause-bytes t c =
    joined_rest (texts_of c.args.request.now) c.args.components.now c.text_of-text.result.now c.joined_bytes-rest.result.items c.in-len1-up.len_at_least
    c.text_of-text.ensures (sym c.is_empty.ensures ∙ c.if-is_empty.true) c.joined_bytes-rest.ensures.bytes
