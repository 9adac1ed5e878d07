use Rattle.std.proofs.Common.{refl}
use Rattle.hsm_rows.specs.Table.{all_rows, host_rows, console_rows}
use Rattle.hsm_rows.proofs.laws.few_fields_and_needs.Goals as goal

pub returns-clause-fields : goal.returns-clause-fields
unfolding all_rows host_rows console_rows
returns-clause-fields c = refl

pub returns-clause-needs : goal.returns-clause-needs
unfolding all_rows host_rows console_rows
returns-clause-needs c = refl
