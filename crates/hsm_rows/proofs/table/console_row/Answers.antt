use Rattle.std.proofs.Common.{ap, ◌∙◌}
use Rattle.hsm_rows.specs.Table.{console_rows, row_with}
use Rattle.hsm_rows.proofs.RowLemmas.{row_found, console_row_few}
use Rattle.hsm_rows.proofs.table.console_row.Goals as goal

pub returns-clause-console : goal.returns-clause-console
returns-clause-console c = row_found c.args.word.now console_rows c.find_row.result (c.find_row.ensures ∙ ap (row_with c.args.word.now) c.console_side.ensures)

pub returns-clause-few : goal.returns-clause-few
returns-clause-few c = console_row_few c.find_row.result (returns-clause-console c)
