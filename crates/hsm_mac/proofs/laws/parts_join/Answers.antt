use Rattle.hsm_mac.proofs.MacLaws.{parts_join, made_of_all_blocks, made_of_joined}
use Rattle.hsm_mac.proofs.laws.parts_join.Goals as goal

pub returns : goal.returns
returns c = record { states = parts_join; blocks = made_of_all_blocks; joined = made_of_joined }
