use Rattle.std.proofs.Common.{◌≡◌, take}
use Rattle.hsm_desk.specs.Passes.{BooksAll, Sound, with_clock}
use Rattle.hsm_desk.proofs.desk.Desk.book_all.Given as goal

abbrev pub invariant-asks : goal.invariant-asks
invariant-asks g l = record {
  desk : l.pass.desk ≡ l.fn.pass.desk;
  sound : Sound l.pass;
  made : BooksAll (with_clock l.fn.pass (g.C.Clock.last l.fn.clock) (g.C.Clock.to_come l.fn.clock))
      (with_clock l.pass (g.C.Clock.last l.clock) (g.C.Clock.to_come l.clock)) (take l.at l.asks) (take l.at l.booked);
}
