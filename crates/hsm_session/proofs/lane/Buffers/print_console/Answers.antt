use Rattle.std.proofs.Common.{◌≡◌, ◌∷◌, [], List, arith}
use Rattle.std.proofs.lemmas.Grind.{common_steps}
use Rattle.hsm_auth.specs.declared.entry.Entry.{Entry}
use Rattle.hsm_auth.specs.History.{StandsFor}
use Rattle.hsm_auth.specs.declared.activity.Place.TheVariants.{Console}
use Rattle.hsm_io.specs.Texts.{Appends, AppendsFront}
use Rattle.hsm_session.specs.Booking.{console_line, entry_of, reply_of, IsBooked, BooksFront}
use Rattle.hsm_session.proofs.BookingLaws.{books_message, front_message, on_err, on_ok}
use Rattle.hsm_session.proofs.lane.Buffers.print_console.Goals as goal

pub returns-clause-booked : goal.returns-clause-booked
unfolding console_line
returns-clause-booked g c =
    let m = c.args.module.now in
    let message = c.args.text.now in
    let before = g.S.Sink.stands_for c.args.out.now in
    let after = g.S.Sink.stands_for c.write_all.new.out in
    let reply = c.answer.new.self.reply in
    let text : c.deref.result.now ≡ console_line reply = grind (arith, common_steps) in
    on_ok c.write_all.result (Appends before after c.deref.result.now)
    ((h : List Entry) → StandsFor c.args.ledger.now h
    → IsBooked h (entry_of m Console c.args.moment h message ∷ []) (console_line (reply_of m Console c.args.moment h message)) c.answer.new.ledger before after)
    c.write_all.ensures.ok
    (λ printed h at. books_message m Console c.args.moment message reply c.deref.result.now console_line c.args.ledger.now c.answer.new.ledger before after h (c.answer.ensures.answered h at) text printed)

pub returns-clause-part : goal.returns-clause-part
unfolding console_line
returns-clause-part g c =
    let m = c.args.module.now in
    let message = c.args.text.now in
    let before = g.S.Sink.stands_for c.args.out.now in
    let after = g.S.Sink.stands_for c.write_all.new.out in
    let reply = c.answer.new.self.reply in
    let text : c.deref.result.now ≡ console_line reply = grind (arith, common_steps) in
    on_err c.write_all.result (AppendsFront before after c.deref.result.now)
    ((h : List Entry) → StandsFor c.args.ledger.now h
    → BooksFront h (entry_of m Console c.args.moment h message ∷ []) (console_line (reply_of m Console c.args.moment h message)) c.answer.new.ledger before after)
    c.write_all.ensures.front
    (λ printed h at. front_message m Console c.args.moment message reply c.deref.result.now console_line c.args.ledger.now c.answer.new.ledger before after h (c.answer.ensures.answered h at) text printed)
