use Rattle.std.proofs.Common.{length}
use Rattle.hsm_session.proofs.batch.+answer_plans.Given as goal

abbrev pub decreases-answer_plans : goal.decreases-answer_plans
decreases-answer_plans g l = length l.plans.now
