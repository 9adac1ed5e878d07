use Rattle.hsm_answers.proofs.PlanSteps.{answered_planned}
use Rattle.hsm_answers.proofs.laws.planned_answer.Goals as goal

pub returns : goal.returns
returns c = answered_planned
