use Rattle.std.proofs.Common.{rules, ◌≡◌, sym, ap, ◌∙◌, subst, []}
use Rattle.hsm_auth.specs.Own.{own}
use Rattle.hsm_desk.specs.Kin.{IsSound, first_pair}
use Rattle.hsm_desk.specs.Rule.{Seated}
use Rattle.hsm_desk.proofs.Moves.{splits_at, kept_sound, new_sound}
use Rattle.hsm_desk.proofs.OwnKept.{unused}
use Rattle.hsm_desk.proofs.desk.Desk.split.Goals as goal

pub split_seat-seat-requires : goal.split_seat-seat-requires
split_seat-seat-requires c = (search rules, search rules, splits_at c.pass.inside.seat.id c.pass.inside.seat.me.0 c.pass.invariant.1 c.pass.invariant.2.first (search rules))

pub invariant_of-pass : goal.invariant_of-pass
invariant_of-pass c = let e = c.split_seat-seat.ensures.2 in (
  ap (λ (m : Seated). m.1) e ∙ c.pass.invariant.0,
  ap (λ (m : Seated). m.0.stage) e ∙ c.pass.invariant.1,
  subst (λ (m : Seated). IsSound m.0.known.seen m.0.known.kin) (sym e) (kept_sound c.pass.inside.seat.me.0.known.seen c.pass.inside.seat.me.0.known.kin c.pass.invariant.2 (search rules)),
)

pub invariant_of-result : goal.invariant_of-result
invariant_of-result c = let e = c.split_seat-seat.ensures.4 in (
  ap (λ (m : Seated). m.1) e,
  ap (λ (m : Seated). m.0.stage) e,
  subst (λ (m : Seated). IsSound m.0.known.seen m.0.known.kin) (sym e) (new_sound c.pass.inside.seat.me.0.known.seen c.pass.inside.seat.me.0.known.kin c.pass.invariant.2 (search rules)),
)

pub returns-clause-sound : goal.returns-clause-sound
returns-clause-sound c = let e = c.split_seat-seat.ensures.2 in let e' = c.split_seat-seat.ensures.4 in (
  subst (λ (m : Seated). IsSound m.0.known.seen m.0.known.kin) (sym e) (kept_sound c.pass.inside.seat.me.0.known.seen c.pass.inside.seat.me.0.known.kin c.pass.invariant.2 (search rules)),
  subst (λ (m : Seated). IsSound m.0.known.seen m.0.known.kin) (sym e') (new_sound c.pass.inside.seat.me.0.known.seen c.pass.inside.seat.me.0.known.kin c.pass.invariant.2 (search rules)),
)

pub returns-clause-unused : goal.returns-clause-unused
returns-clause-unused c = subst (λ (m : Seated). own (first_pair m.0.known.kin).0 m.0.known.seen ≡ []) (sym c.split_seat-seat.ensures.4) (unused c.pass.inside.seat.me.0.known.seen c.pass.inside.seat.me.0.known.kin c.pass.invariant.2)
