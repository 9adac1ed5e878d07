use Rattle.hsm_auth.proofs.ledger.Ledger.step_into.Goals as goal

pub invariant_of-self : goal.invariant_of-self
invariant_of-self c = let known = c.self.invariant in (_, c.step.ensures.stands known.0 0 known.1)

pub returns-clause-legal : goal.returns-clause-legal
returns-clause-legal c h pass stands legal = c.step.ensures.legal h pass (rw c.self.view_is stands) legal
