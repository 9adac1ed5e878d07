use Rattle.hsm_blocks.proofs.BlockLaws.{block_count, byte_count}
use Rattle.hsm_blocks.proofs.laws.counts.Goals as goal

pub returns : goal.returns
returns c = record { blocks = block_count; bytes = byte_count }
