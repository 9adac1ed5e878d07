use Rattle.hsm_answers.proofs.Officers.{words_authorise}
use Rattle.hsm_answers.proofs.clear.words_authorise.Goals as goal

pub returns : goal.returns
returns c = words_authorise
