use Rattle.hsm_modes.proofs.ModeLaws.{block_by_block, chain_follows}
use Rattle.hsm_modes.proofs.laws.block_by_block.Goals as goal

pub returns : goal.returns
returns c = record { blocks = block_by_block; chain = chain_follows }
