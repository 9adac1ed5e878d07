use Rattle.hsm_session.proofs.Limits.{stays_legal}
use Rattle.hsm_session.proofs.laws.legal_runs.Goals as goal

pub returns : goal.returns
returns c = λ m h script lines last text over reads told legal.
    stays_legal c.asks_within_limits.ensures.host c.asks_within_limits.ensures.console m h script lines last text over reads told legal
