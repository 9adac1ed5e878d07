use Rattle.std.proofs.Common.{◌≡◌, take}
use Rattle.hsm_session.specs.Batches.{counted_all}
use Rattle.hsm_session.proofs.batch.count_all.Given as goal

abbrev pub invariant-entries : goal.invariant-entries
invariant-entries l = l.count ≡ counted_all l.fn.count (take l.entry-index l.booked)
