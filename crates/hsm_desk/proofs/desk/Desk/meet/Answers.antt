use Rattle.std.proofs.Common.{rules, ap, ◌∙◌, subst}
use Rattle.hsm_desk.specs.Rule.{Seated}
use Rattle.hsm_desk.specs.Passes.{Sound}
use Rattle.hsm_desk.proofs.Moves.{joins_at, learns_at, learnt_sound}
use Rattle.hsm_desk.proofs.Bookings.{pass_view}
use Rattle.hsm_desk.proofs.OwnKept.{keeps_both}
use Rattle.hsm_desk.proofs.desk.Desk.meet.Goals as goal

pub join_seat-requires : goal.join_seat-requires
join_seat-requires c = (search rules, search rules, search rules, search rules, joins_at c.mine.inside.seat.id c.other.inside.seat.id c.mine.inside.seat.me.0 c.other.inside.seat.me.0 c.mine.invariant.1 c.other.invariant.1)

pub load-requires : goal.load-requires
load-requires c = let e = c.join_seat.ensures.2 in (
  search rules,
  search rules,
  learns_at c.self.inside.board.shared.table_id.slots c.join_seat.new.seat.id c.join_seat.new.seat.me c.mine.inside.seat.me.0.known c.other.inside.seat.me.0.known c.self.invariant.1 (ap (λ (m : Seated). m.0.stage) e) (ap (λ (m : Seated). m.1) e ∙ c.mine.invariant.0),
)

pub invariant_of-mine : goal.invariant_of-mine
invariant_of-mine c = let e = c.join_seat.ensures.2 in let learns = c.load.ensures.2 in (
  learns.slots ∙ (ap (λ (m : Seated). m.1) e ∙ c.mine.invariant.0),
  learns.stage,
  learnt_sound c.mine.inside.seat.me.0 c.other.inside.seat.me.0 c.join_seat.new.seat.me c.load.new.seat.me c.mine.invariant.2 c.other.invariant.2 (ap (λ (m : Seated). m.0) e) learns,
)

pub returns-clause-sound : goal.returns-clause-sound
returns-clause-sound c = let e = c.join_seat.ensures.2 in
    learnt_sound c.mine.inside.seat.me.0 c.other.inside.seat.me.0 c.join_seat.new.seat.me c.load.new.seat.me c.mine.invariant.2 c.other.invariant.2 (ap (λ (m : Seated). m.0) e) c.load.ensures.2

pub returns-clause-own : goal.returns-clause-own
returns-clause-own c = keeps_both c.args.mine.now c.args.other (pass_view c.load.new.seat.table_id c.load.new.seat.me.0.known) (subst Sound c.mine.view_is c.mine.invariant.2) (subst Sound c.other.view_is c.other.invariant.2) (search rules)
