use Rattle.std.proofs.Common.{◌≡◌}
use Rattle.bench_desk.proofs.desk_load.book.Given as goal

abbrev pub invariant-loop : goal.invariant-loop
invariant-loop g l = l.lane.pass.desk ≡ l.fn.lane.pass.desk
