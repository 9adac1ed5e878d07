use Rattle.std.proofs.Common.{ap, ◌∙◌}
use Rattle.hsm_rows.specs.Table.{host_rows, row_with}
use Rattle.hsm_rows.proofs.RowLemmas.{row_found, host_row_few}
use Rattle.hsm_rows.proofs.table.row_of.Goals as goal

pub returns-clause-host : goal.returns-clause-host
returns-clause-host c = row_found c.args.code.now host_rows c.find_row.result (c.find_row.ensures ∙ ap (row_with c.args.code.now) c.host_side.ensures)

pub returns-clause-few : goal.returns-clause-few
returns-clause-few c = host_row_few c.find_row.result (returns-clause-host c)
