use Rattle.hsm_verify.proofs.ValueLaws.{counts_all}
use Rattle.std.proofs.Common.{arith}
use Rattle.hsm_verify.proofs.offsets.digit_counts.Goals as goal

pub returns : goal.returns
returns c = counts_all c.args.table.now c.loop-digit.counts c.loop-digit.digit-index (omega arith) c.loop-digit.invariant.0 c.loop-digit.invariant.1
