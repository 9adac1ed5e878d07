use Rattle.hsm_des.proofs.KeyTable.{key_part_at}
use Rattle.hsm_des.proofs.key_parts.key_part.Goals as goal

pub returns : goal.returns
returns c = key_part_at c.args.j c.args.seven c.requires.j c.requires.seven
