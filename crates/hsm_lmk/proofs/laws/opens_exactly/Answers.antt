use Rattle.hsm_lmk.proofs.OpenAnswers.{opens-exactly}
use Rattle.hsm_lmk.proofs.laws.opens_exactly.Goals as goal

pub returns : goal.returns
returns c = opens-exactly
