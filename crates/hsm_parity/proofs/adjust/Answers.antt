use Rattle.std.proofs.Common.{arith, refl}
use Rattle.hsm_parity.proofs.Adjusting.{adjusted_more, adjusted_all, odd_all}
use Rattle.hsm_parity.proofs.adjust.Goals as goal

pub loop-byte-init : goal.loop-byte-init
loop-byte-init c = record { size = refl; value = λ k h. absurd (omega arith); odd = λ k h. absurd (omega arith); rest = λ k h. refl; same = refl }

pub loop-byte-preserved : goal.loop-byte-preserved
loop-byte-preserved c =
    adjusted_more c.loop-byte.invariant c.adjusted_byte.result (omega arith)
    c.adjusted_byte.ensures.value c.adjusted_byte.ensures.odd c.adjusted_byte.ensures.upper

pub returns : goal.returns
returns c = record {
  value = adjusted_all c.loop-byte.invariant (omega arith);
  odd = odd_all c.loop-byte.invariant (omega arith);
  upper = c.loop-byte.invariant.same;
}
