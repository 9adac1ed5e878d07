use Rattle.hsm_parity.proofs.Adjusting.{AdjustedBelow}
use Rattle.hsm_parity.proofs.adjust.Given as goal

abbrev pub invariant-loop-byte : goal.invariant-loop-byte
invariant-loop-byte l = AdjustedBelow l.fn.part l.byte-items l.byte-index
