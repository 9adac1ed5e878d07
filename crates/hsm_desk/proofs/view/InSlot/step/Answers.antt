use Rattle.std.proofs.Common.{ℕ, ◌∷◌, ◌++◌, [], sym, subst}
use Rattle.hsm_auth.specs.declared.ledger.Ledger.{Ledger}
use Rattle.hsm_auth.specs.History.{entry, IsLegal, StandsFor}
use Rattle.hsm_desk.proofs.view.InSlot.step.Goals as goal

pub returns-clause-legal : goal.returns-clause-legal
returns-clause-legal g c = λ h pass stands legal.
    subst (λ (moment : ℕ). IsLegal (h ++ entry pass moment c.args.ask.now c.step_into.new.granted ∷ [])) (sym c.now-moment.ensures.last)
    (c.step_into.ensures.legal h pass (subst (λ (l : Ledger). StandsFor l h) (sym c.deref_mut.ensures.value) stands) legal)
