use Rattle.std.proofs.Common.{◌∙◌, List, ℕ, [], ◌++◌, ap₂, arith}
use Rattle.hsm_tdes.proofs.TdesLaws.{two_parts, three_parts}
use Rattle.hsm_tdes.proofs.Key.of.Goals as goal

pub returns-in-16-clause-bytes : goal.returns-in-16-clause-bytes
returns-in-16-clause-bytes c = (
  record { some = omega arith; most = omega arith; parts = (c.part_at-in-16.ensures.part, (c.part_at-in-16-2.ensures.part, tt)) },
  ap₂ (λ (a b : List ℕ). a ++ (b ++ [])) c.part_at-in-16.ensures.bytes c.part_at-in-16-2.ensures.bytes ∙ two_parts c.args.bytes.now c.in-16.is,
)

pub returns-in-24-clause-bytes : goal.returns-in-24-clause-bytes
returns-in-24-clause-bytes c = (
  record { some = omega arith; most = omega arith; parts = (c.part_at-in-24.ensures.part, (c.part_at-in-24-2.ensures.part, (c.part_at-in-24-3.ensures.part, tt))) },
  rw (c.part_at-in-24.ensures.bytes, c.part_at-in-24-2.ensures.bytes, c.part_at-in-24-3.ensures.bytes) (three_parts c.args.bytes.now c.in-24.is),
)
