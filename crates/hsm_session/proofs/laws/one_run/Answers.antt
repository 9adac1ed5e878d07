use Rattle.hsm_session.proofs.OneRun.{at_least_one, only_one}
use Rattle.hsm_session.proofs.laws.one_run.Goals as goal

pub returns-clause-some : goal.returns-clause-some
returns-clause-some c = λ m h script lines is. at_least_one c.has_one_reading.ensures.some m h script lines is

pub returns-clause-only : goal.returns-clause-only
returns-clause-only c = λ m h lines last other text output over end t s. only_one c.has_one_reading.ensures.only m h lines last other text output over end t s
