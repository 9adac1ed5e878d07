use Rattle.std.proofs.Common.{◌≡◌, ◌∷◌, [], arith}
use Rattle.std.proofs.lemmas.Grind.{common_steps}
use Rattle.hsm_io.specs.Texts.{Appends, AppendsFront}
use Rattle.hsm_session.specs.Booking.{reply_line, BooksAll, BooksSome}
use Rattle.hsm_session.proofs.BookingLaws.{books_one, on_err, on_ok, some_one}
use Rattle.hsm_session.proofs.lane.Buffers.print_answer.Goals as goal

pub returns-clause-booked : goal.returns-clause-booked
unfolding reply_line
returns-clause-booked g c =
    let m = c.args.module.now in
    let message = c.args.message.now in
    let before = g.S.Sink.stands_for c.args.out.now in
    let after = g.S.Sink.stands_for c.write_all.new.out in
    let reply = c.answer.new.self.reply in
    let text : c.deref-2.result.now ≡ reply_line c.args.number reply = grind (arith, common_steps) in
    on_ok c.write_all.result (Appends before after c.deref-2.result.now) (BooksAll m c.args.number c.args.moment (message ∷ []) c.args.ledger.now c.answer.new.ledger before after) c.write_all.ensures.ok
    (books_one m c.args.number c.args.moment message reply c.deref-2.result.now c.args.ledger.now c.answer.new.ledger before after c.answer.ensures.answered text)

pub returns-clause-part : goal.returns-clause-part
unfolding reply_line
returns-clause-part g c =
    let m = c.args.module.now in
    let message = c.args.message.now in
    let before = g.S.Sink.stands_for c.args.out.now in
    let after = g.S.Sink.stands_for c.write_all.new.out in
    let reply = c.answer.new.self.reply in
    let text : c.deref-2.result.now ≡ reply_line c.args.number reply = grind (arith, common_steps) in
    on_err c.write_all.result (AppendsFront before after c.deref-2.result.now) (BooksSome m c.args.number c.args.moment (message ∷ []) c.args.ledger.now c.answer.new.ledger before after) c.write_all.ensures.front
    (some_one m c.args.number c.args.moment message reply c.deref-2.result.now c.args.ledger.now c.answer.new.ledger before after c.answer.ensures.answered text)
