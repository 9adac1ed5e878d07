use Rattle.std.proofs.Common.{List, ◌++◌, ap, ◌∙◌, map}
use Rattle.hsm_auth.specs.declared.entry.Grant.{Grant}
use Rattle.hsm_answers.specs.Values.{grant_text, counted}
use Rattle.hsm_commands.proofs.ListSteps.{listed}
use Rattle.hsm_commands.proofs.reply_console.put_grants.Goals as goal

pub returns-clause-text : goal.returns-clause-text
returns-clause-text c =
    listed grant_text c.live_of-grants.result.now c.args.reply.now c.put_decimal.new.reply c.put_each_grant.new.reply c.put_decimal.ensures.text c.put_each_grant.ensures.text
    ∙ ap (λ (xs : List Grant). c.args.reply.now ++ counted (map grant_text xs)) c.live_of-grants.ensures.grants
