use Rattle.hsm_blocks.specs.Blocks.{block_of_bytes}
use Rattle.hsm_blocks.proofs.block_of_bytes.Goals as goal

pub returns : goal.returns
unfolding block_of_bytes
returns c = c.from_be_bytes.ensures
