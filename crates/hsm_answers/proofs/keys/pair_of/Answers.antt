use Rattle.std.proofs.Common.{◌∙◌}
use Rattle.hsm_answers.proofs.PairLengths.{second_is}
use Rattle.hsm_answers.proofs.keys.pair_of.Goals as goal

pub returns-clause-second : goal.returns-clause-second
returns-clause-second c = c.one-2.ensures ∙ second_is c.args.key.now c.part-2.result c.requires c.part-2.ensures
