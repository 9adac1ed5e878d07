use Rattle.std.proofs.Common.{length}
use Rattle.hsm_rows.proofs.read.+ends_with_set.Given as goal

abbrev pub decreases-ends_with_set : goal.decreases-ends_with_set
decreases-ends_with_set l = length l.fields.now
