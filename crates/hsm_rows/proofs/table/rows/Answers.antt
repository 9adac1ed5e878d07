use Rattle.std.proofs.Common.{refl}
use Rattle.hsm_rows.specs.Table.{all_rows, host_rows, console_rows}
use Rattle.hsm_rows.proofs.table.rows.Goals as goal

pub returns : goal.returns
unfolding all_rows host_rows console_rows
returns c = refl
