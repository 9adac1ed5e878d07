use Rattle.std.proofs.Common.{◌≡◌}
use Rattle.test_desk.proofs.desks.book_times.Given as goal

abbrev pub invariant-loop : goal.invariant-loop
invariant-loop g l = l.pass.desk ≡ l.fn.pass.desk
