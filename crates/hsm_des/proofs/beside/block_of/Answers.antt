use Rattle.hsm_des.specs.Beside.{block_held}
use Rattle.hsm_des.proofs.beside.block_of.Goals as goal

pub returns : goal.returns
unfolding block_held
returns c = c.wide_last.ensures
