use Rattle.hsm_des.proofs.MergedTable.{merged_at}
use Rattle.hsm_des.proofs.merged.merged_entry.Goals as goal

pub returns : goal.returns
returns c = merged_at c.args.i c.args.six c.requires.i c.requires.six
