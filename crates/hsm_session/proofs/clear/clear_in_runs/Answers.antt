use Rattle.std.proofs.Common.{[]}
use Rattle.hsm_session.proofs.ClearRuns.{each_message, by_officers, granted_before}
use Rattle.hsm_session.proofs.clear.clear_in_runs.Goals as goal

pub returns-clause-messages : goal.returns-clause-messages
returns-clause-messages c = λ m h lines last text over told i least low. each_message m h [] lines last told.answers told.printed i least low

pub returns-clause-officers : goal.returns-clause-officers
returns-clause-officers c = λ m h lines last text over told i e activity minutes least there asks.
    by_officers c.words_authorise.ensures m h lines last told.answers told.printed i e activity minutes least there asks

pub returns-clause-clear : goal.returns-clause-clear
returns-clause-clear c = λ m h lines last text over told i e side moment message there entered s.
    granted_before c.words_authorise.ensures c.clear_where_granted.ensures.answered m h lines last told.answers told.printed i e side moment message there entered s
