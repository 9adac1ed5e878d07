use Rattle.hsm_auth.proofs.Named.{named-is}
use Rattle.hsm_auth.proofs.activity.Activity.read.Goals as goal

pub returns-clause-value : goal.returns-clause-value
returns-clause-value c = named-is c.args.text.now c.activity_at.result c.activity_at.ensures
