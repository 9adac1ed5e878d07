use Rattle.std.proofs.Common.{List, refl, ap}
use Rattle.hsm_auth.specs.declared.entry.Note.{Note}
use Rattle.hsm_auth.specs.declared.entry.Granted.TheVariants.{Recent}
use Rattle.hsm_auth.proofs.Answered.{all-stay, place-stays}
use Rattle.hsm_auth.proofs.state.State.recent.Goals as goal

pub returns : goal.returns
returns c = let l = c.args.self.now in record {
  answered = ap (λ (ns : List Note). Recent record { items = ns }) c.copied_notes.ensures;
  moment = refl;
  grants = all-stay l.grants.items;
  place = place-stays l.place l.small.0;
  number = refl;
  notes = refl;
}
