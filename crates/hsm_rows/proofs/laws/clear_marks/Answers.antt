use Rattle.std.proofs.Common.{refl}
use Rattle.hsm_rows.specs.Table.{all_rows, host_rows, console_rows}
use Rattle.hsm_rows.proofs.laws.clear_marks.Goals as goal

pub returns-clause-only : goal.returns-clause-only
unfolding all_rows host_rows console_rows
returns-clause-only c = refl

pub returns-clause-marks : goal.returns-clause-marks
unfolding all_rows host_rows console_rows
returns-clause-marks c = refl

pub returns-clause-pin : goal.returns-clause-pin
returns-clause-pin c = refl

pub returns-clause-component : goal.returns-clause-component
returns-clause-component c = refl
