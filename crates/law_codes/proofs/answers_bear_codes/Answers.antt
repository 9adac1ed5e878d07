use Rattle.law_codes.proofs.Answers.{bears}
use Rattle.law_codes.proofs.answers_bear_codes.Goals as goal

pub returns : goal.returns
returns c = bears
