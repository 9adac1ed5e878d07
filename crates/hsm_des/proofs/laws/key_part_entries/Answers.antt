use Rattle.hsm_des.proofs.KeyTable.{key_part_at}
use Rattle.hsm_des.proofs.laws.key_part_entries.Goals as goal

pub returns : goal.returns
returns c = key_part_at
