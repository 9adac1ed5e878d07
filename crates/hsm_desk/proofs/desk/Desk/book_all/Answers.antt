use Rattle.std.proofs.Common.{◌∙◌, arith}
use Rattle.hsm_desk.proofs.Bookings.{books_more}
use Rattle.hsm_desk.proofs.desk.Desk.book_all.Goals as goal

pub asks-preserved : goal.asks-preserved
asks-preserved g c =
    let one = c.book_next.ensures.one in record {
      desk = one.entry.desk ∙ c.asks.invariant.desk;
      sound = one.sound;
      made = books_more _ _ _ c.args.asks.now c.asks.booked c.asks.at _ c.book_next.new.booked c.asks-test.true (omega arith) c.asks.invariant.made one;
    }
