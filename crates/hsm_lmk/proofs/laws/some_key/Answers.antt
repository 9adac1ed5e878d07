use Rattle.hsm_lmk.proofs.SealedLaws.{some_key}
use Rattle.hsm_lmk.proofs.laws.some_key.Goals as goal

pub returns : goal.returns
returns c = some_key
