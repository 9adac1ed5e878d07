use Rattle.hsm_blocks.proofs.BlockLaws.{blocks_of-one, blocks_of-append, bytes_of-append, fills_joined}
use Rattle.hsm_blocks.proofs.laws.blocks_join.Goals as goal

pub returns : goal.returns
returns c = record { one = blocks_of-one; blocks = blocks_of-append; bytes = bytes_of-append; parts = fills_joined }
