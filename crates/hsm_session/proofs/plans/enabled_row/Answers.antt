use Rattle.hsm_rows.specs.Table.{IsConsoleRow, IsHostRow}
use Rattle.hsm_session.proofs.PlanLaws.{followed}
use Rattle.hsm_session.proofs.plans.enabled_row.Goals as goal

pub returns-in-Host-clause-followed : goal.returns-in-Host-clause-followed
returns-in-Host-clause-followed c = followed IsHostRow c.host_rows_followed.ensures c.row_of.result c.row_of.ensures.host

pub returns-in-Console-clause-followed : goal.returns-in-Console-clause-followed
returns-in-Console-clause-followed c = followed IsConsoleRow c.console_rows_followed.ensures c.console_row.result c.console_row.ensures.console
