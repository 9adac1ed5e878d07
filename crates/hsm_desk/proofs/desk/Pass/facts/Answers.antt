use Rattle.std.proofs.Common.{subst}
use Rattle.hsm_desk.specs.Passes.{Sound}
use Rattle.hsm_desk.proofs.OwnKept.{only_kin}
use Rattle.hsm_desk.proofs.desk.Pass.facts.Goals as goal

pub returns-clause-numbers : goal.returns-clause-numbers
returns-clause-numbers c = only_kin c.args.self.now (subst Sound c.self.view_is c.self.invariant.2)
