use Rattle.std.proofs.Common.{◌≡◌, ◌-◌, ◌∙◌, refl, sym, ap, ap₂, length, append-nil, arith}
use Rattle.hsm_auth.specs.declared.entry.Granted.TheVariants.{Cancelled}
use Rattle.hsm_auth.proofs.Answered.{others, count-gone, length-others_le, place-stays}
use Rattle.hsm_auth.proofs.state.State.cancel.Goals as goal

pub overflow_sub-result : goal.overflow_sub-result
overflow_sub-result c =
    let after = ap length c.remove.ensures in let less = length-others_le c.args.activity.now c.args.self.now.grants.items in omega arith

pub returns : goal.returns
returns c =
    let l = c.args.self.now in
    let a = c.args.activity.now in
    let after : c.len.result ≡ length (others a l.grants.items) = c.len.ensures.value ∙ ap length c.remove.ensures in record {
      answered = ap Cancelled (ap₂ ◌-◌ c.len-before.ensures.value after ∙ count-gone a l.grants.items);
      moment = refl;
      grants = c.remove.ensures ∙ sym (append-nil (others a l.grants.items));
      place = place-stays l.place l.small.0;
      number = refl;
      notes = refl;
    }
