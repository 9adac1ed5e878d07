use Rattle.std.proofs.Common.{◌∙◌, ap, ap₂}
use Rattle.hsm_lmk.specs.Pairs.{lmk_pair}
use Rattle.hsm_lmk.specs.Sealing.{wrap, varied_first}
use Rattle.hsm_lmk.proofs.SealingLemmas.{pair_varied}
use Rattle.hsm_lmk.proofs.wrapping_pair.Goals as goal

pub returns-clause-wrap : goal.returns-clause-wrap
unfolding wrap
returns-clause-wrap c =
    c.two.ensures
    ∙ pair_varied c.lmk_pair-pair.result c.type_variant.result c.part.result c.part-2.result c.vary.result
    c.lmk_pair-pair.ensures.parts c.part.ensures c.part-2.ensures c.vary.ensures
    ∙ ap₂ varied_first c.type_variant.ensures (c.lmk_pair-pair.ensures.pair ∙ ap (lmk_pair c.args.set.now) c.pair.ensures.pair)
