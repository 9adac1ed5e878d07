use Rattle.std.proofs.Common.{refl}
use Rattle.hsm_des.specs.Words.{upper_exchanged, lower_exchanged}
use Rattle.hsm_des.proofs.words.exchange.Goals as goal

pub returns : goal.returns
unfolding upper_exchanged lower_exchanged
returns c = record { upper = refl; lower = refl }
