use Rattle.std.proofs.Common.{ℕ, List, [], ◌∷◌, refl, subst}
use Rattle.hsm_auth.specs.declared.entry.Entry.{Entry}
use Rattle.hsm_auth.specs.History.{StandsFor}
use Rattle.hsm_auth.specs.declared.activity.Place.TheVariants.{Console}
use Rattle.hsm_session.specs.Booking.{IsBooked, BooksFront, console_line, entry_of, reply_of}
use Rattle.std.specs.Result.{OnErr}
use Rattle.hsm_session.specs.Scripts.{Piece}
use Rattle.hsm_session.specs.Reading.{said_of}
use Rattle.hsm_session.specs.Lanes.{StopsLine}
use Rattle.hsm_session.proofs.BookingLaws.{for_err}
use Rattle.hsm_session.proofs.Running.{stops_at_console, takes_nothing, takes_moment, takes_console}
use Rattle.hsm_session.proofs.run.Run.take_line.Goals as goal

pub returns-in-Skip-clause-takes : goal.returns-in-Skip-clause-takes
returns-in-Skip-clause-takes g c =
    rw c.in-Skip.is (takes_nothing c.args.module.now c.args.self.now c.args.ledger.now (g.S.Sink.stands_for c.args.out.now))

pub returns-in-Moment-clause-takes : goal.returns-in-Moment-clause-takes
returns-in-Moment-clause-takes g c =
    rw c.in-Moment.is (takes_moment c.args.module.now c.args.self.now _ c.in-Moment.moment c.args.ledger.now (g.S.Sink.stands_for c.args.out.now) refl refl refl)

pub returns-in_ok-print_console-in-Console-clause-takes : goal.returns-in_ok-print_console-in-Console-clause-takes
returns-in_ok-print_console-in-Console-clause-takes g c =
    rw c.in-Console.is
    (takes_console c.args.module.now c.args.self.now _ c.in-Console.text.items c.args.ledger.now c.print_console.new.ledger (g.S.Sink.stands_for c.args.out.now)
    (g.S.Sink.stands_for c.print_console.new.out) refl refl refl
    (subst (λ (text : List ℕ). (h : List Entry) → StandsFor c.args.ledger.now h
    → IsBooked h (entry_of c.args.module.now Console c.args.self.now.moment h text ∷ []) (console_line (reply_of c.args.module.now Console c.args.self.now.moment h text))
    c.print_console.new.ledger (g.S.Sink.stands_for c.args.out.now) (g.S.Sink.stands_for c.print_console.new.out))
    c.deref-in-Console.ensures.value c.in_ok-print_console-in-Console.ensures.booked))

pub returns-in_err-print_console-in-Console-clause-stops : goal.returns-in_err-print_console-in-Console-clause-stops
returns-in_err-print_console-in-Console-clause-stops g c =
    let m = c.args.module.now in
    let before = g.S.Sink.stands_for c.args.out.now in
    let after = g.S.Sink.stands_for c.print_console.new.out in
    let moment = c.args.self.now.moment in
    let part = subst (λ (text : List ℕ). (h : List Entry) → StandsFor c.args.ledger.now h
    → BooksFront h (entry_of m Console moment h text ∷ []) (console_line (reply_of m Console moment h text)) c.print_console.new.ledger before after)
    c.deref-in-Console.ensures.value c.in_err-print_console-in-Console.ensures.part in
    for_err c.from_residual.result (StopsLine m c.args.self.now (said_of c.args.line.now) c.args.ledger.now c.print_console.new.ledger before after)
    (rw c.in-Console.is (stops_at_console m c.args.self.now c.in-Console.text.items c.args.ledger.now c.print_console.new.ledger before after part))

pub returns-in-Piece-clause-stops : goal.returns-in-Piece-clause-stops
returns-in-Piece-clause-stops g c =
    let before = g.S.Sink.stands_for c.args.out.now in
    let after = g.S.Sink.stands_for c.take_piece.new.out in
    rw c.in-Piece.is
    (subst (λ (bytes : List ℕ). OnErr c.take_piece.result (StopsLine c.args.module.now c.args.self.now (Piece c.in-Piece.lane bytes) c.args.ledger.now c.take_piece.new.ledger before after))
    c.deref.ensures.value c.take_piece.ensures.stops)
