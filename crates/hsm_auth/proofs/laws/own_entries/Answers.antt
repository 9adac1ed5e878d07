use Rattle.hsm_auth.proofs.OwnTotals.{own-there, own-every, own-ascends, own-all}
use Rattle.hsm_auth.proofs.laws.own_entries.Goals as goal

pub returns-clause-there : goal.returns-clause-there
returns-clause-there c = own-there

pub returns-clause-every : goal.returns-clause-every
returns-clause-every c = own-every

pub returns-clause-ascends : goal.returns-clause-ascends
returns-clause-ascends c = own-ascends

pub returns-clause-total : goal.returns-clause-total
returns-clause-total c = own-all
