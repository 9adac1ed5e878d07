use Rattle.hsm_auth.proofs.LiveGrants.{live-given, live-contains, met-covered}
use Rattle.hsm_auth.proofs.laws.live_grants.Goals as goal

pub returns-clause-given : goal.returns-clause-given
returns-clause-given c = live-given

pub returns-clause-live : goal.returns-clause-live
returns-clause-live c = live-contains

pub returns-clause-met : goal.returns-clause-met
returns-clause-met c = met-covered
