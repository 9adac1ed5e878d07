use Rattle.hsm_answers.specs.Messages.{command_of}
use Rattle.hsm_answers.proofs.ClearAnswers.{is_marked, granted_at}
use Rattle.hsm_answers.proofs.clear.clear_where_granted.Goals as goal

pub returns-clause-rows : goal.returns-clause-rows
returns-clause-rows c = λ m side message g s. is_marked m side (command_of m side message) s.row s.found s.marked

pub returns-clause-legal : goal.returns-clause-legal
returns-clause-legal c = λ m side message h i e legal there asks s.
    granted_at c.live_grants.ensures.met c.live_grants.ensures.live m side message h i e asks (legal i e there).answers s

pub returns-clause-answered : goal.returns-clause-answered
returns-clause-answered c = λ m side message h i e there asks answers s.
    granted_at c.live_grants.ensures.met c.live_grants.ensures.live m side message h i e asks answers s
