use Rattle.std.proofs.Common.{◌∙◌, refl, ap}
use Rattle.hsm_auth.specs.declared.entry.Granted.TheVariants.{Cancelled}
use Rattle.hsm_auth.proofs.Answered.{none-stay, place-stays}
use Rattle.hsm_auth.proofs.state.State.cancel_all.Goals as goal

pub returns : goal.returns
returns c = let l = c.args.self.now in record {
  answered = ap Cancelled c.len-count.ensures.value;
  moment = refl;
  grants = c.clear.ensures ∙ none-stay l.grants.items;
  place = place-stays l.place l.small.0;
  number = refl;
  notes = refl;
}
