use Rattle.std.proofs.Common.{ap, ◌∙◌, subst}
use Rattle.hsm_desk.specs.declared.view.InSlot.{InSlot}
use Rattle.hsm_desk.specs.Rule.{Seated}
use Rattle.hsm_desk.specs.Passes.{PassView, Sound}
use Rattle.hsm_desk.proofs.OwnKept.{own_booked}
use Rattle.hsm_desk.proofs.Bookings.{may_enter, books_as, sound_after}
use Rattle.hsm_desk.proofs.desk.Desk.book_next.Goals as goal

pub enter-booked-requires-clause-entry : goal.enter-booked-requires-clause-entry
enter-booked-requires-clause-entry g c =
    let known = c.take-held.new.seat.me.0.known in
    let x : InSlot = c.step.new.self in
    may_enter known.seen known.kin (g.C.Clock.last c.step.new.clock) c.args.ask.now c.step.new.granted c.take-held.result.ledger.value x c.take-held.ensures.turn.ledger c.take-held.ensures.turn.legal c.step.ensures.stands c.step.ensures.legal c.step.ensures.kept.0 c.step.ensures.kept.1 c.step.ensures.kept.2

pub invariant_of-pass : goal.invariant_of-pass
invariant_of-pass g c =
    let known = c.take-held.new.seat.me.0.known in
    let x : InSlot = c.step.new.self in
    let may = may_enter known.seen known.kin (g.C.Clock.last c.step.new.clock) c.args.ask.now c.step.new.granted c.take-held.result.ledger.value x c.take-held.ensures.turn.ledger c.take-held.ensures.turn.legal c.step.ensures.stands c.step.ensures.legal c.step.ensures.kept.0 c.step.ensures.kept.1 c.step.ensures.kept.2 in (
      ap (λ (m : Seated). m.1) c.enter-booked.ensures.made,
      ap (λ (m : Seated). m.0.stage) c.enter-booked.ensures.made,
      sound_after c.pass.inside.seat.me.0.known c.draw-ticket.result c.draw-ticket.new.seat.me c.take-held.new.seat.me c.enter-booked.new.seat.me c.take-held.result x c.pass.invariant.2 c.draw-ticket.ensures.drawn.0 c.draw-ticket.ensures.drawn.1 c.take-held.ensures.turn may.0 c.enter-booked.ensures.made c.enter-booked.ensures.own,
    )

pub returns : goal.returns
returns g c =
    let known = c.take-held.new.seat.me.0.known in
    let x : InSlot = c.step.new.self in
    let may = may_enter known.seen known.kin (g.C.Clock.last c.step.new.clock) c.args.ask.now c.step.new.granted c.take-held.result.ledger.value x c.take-held.ensures.turn.ledger c.take-held.ensures.turn.legal c.step.ensures.stands c.step.ensures.legal c.step.ensures.kept.0 c.step.ensures.kept.1 c.step.ensures.kept.2 in
    let answers = c.step.ensures.answer known.seen c.take-held.ensures.turn.ledger in
    let booked = books_as c.args.pass.now c.pass.inside.seat.table_id c.enter-booked.new.seat.table_id c.pass.inside.seat.me.0.known c.draw-ticket.result c.draw-ticket.new.seat.me c.take-held.new.seat.me c.enter-booked.new.seat.me c.take-held.result x
    (g.C.Clock.last c.step.new.clock) c.args.ask.now c.step.new.granted c.enter-booked.result
    c.pass.view_is (c.enter-booked.ensures.desk ∙ (c.take-held.ensures.desk ∙ c.draw-ticket.ensures.desk)) c.draw-ticket.ensures.drawn.0 c.draw-ticket.ensures.drawn.1 c.take-held.ensures.turn may.0 c.enter-booked.ensures.place c.enter-booked.ensures.made c.step.ensures.kept.0 c.step.ensures.kept.1 c.step.ensures.kept.2 answers in
    let sound = sound_after c.pass.inside.seat.me.0.known c.draw-ticket.result c.draw-ticket.new.seat.me c.take-held.new.seat.me c.enter-booked.new.seat.me c.take-held.result x c.pass.invariant.2 c.draw-ticket.ensures.drawn.0 c.draw-ticket.ensures.drawn.1 c.take-held.ensures.turn may.0 c.enter-booked.ensures.made c.enter-booked.ensures.own in
    record {
      one = record {
        entry = booked;
        own = own_booked c.args.pass.now _ _ _ _ _ (subst (λ (p : PassView). Sound p) c.pass.view_is c.pass.invariant.2) booked;
        sound = sound;
        moment = c.step.ensures.moment;
      };
    }
