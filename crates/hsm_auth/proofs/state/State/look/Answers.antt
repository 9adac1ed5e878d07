use Rattle.std.proofs.Common.{List, refl, ap}
use Rattle.hsm_auth.specs.declared.entry.Grant.{Grant}
use Rattle.hsm_auth.specs.declared.entry.Granted.TheVariants.{Seen}
use Rattle.hsm_auth.proofs.Answered.{all-stay, place-stays}
use Rattle.hsm_auth.proofs.state.State.look.Goals as goal

pub returns : goal.returns
returns c = let l = c.args.self.now in record {
  answered = ap (λ (gs : List Grant). Seen l.moment l.place record { items = gs }) c.copied_grants.ensures;
  moment = refl;
  grants = all-stay l.grants.items;
  place = place-stays l.place l.small.0;
  number = refl;
  notes = refl;
}
