use Rattle.hsm_commands.proofs.TableRows.{console_followed}
use Rattle.hsm_commands.proofs.fit.console_rows_followed.Goals as goal

pub returns : goal.returns
returns c = console_followed
