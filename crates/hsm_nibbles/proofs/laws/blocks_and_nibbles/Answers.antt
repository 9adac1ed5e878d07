use Rattle.hsm_nibbles.proofs.NibbleLaws.{block_of-nibbles_of, nibbles_of-block_of, nibbles_of-bytes}
use Rattle.hsm_nibbles.proofs.laws.blocks_and_nibbles.Goals as goal

pub returns : goal.returns
returns c = record { block = block_of-nibbles_of; nibbles = nibbles_of-block_of; bytes = nibbles_of-bytes }
