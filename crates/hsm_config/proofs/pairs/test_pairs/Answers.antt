use Rattle.hsm_config.proofs.TestSet.{test_set}
use Rattle.hsm_config.proofs.pairs.test_pairs.Goals as goal

pub returns : goal.returns
returns c = test_set
