use Rattle.hsm_commands.proofs.TableRows.{host_followed}
use Rattle.hsm_commands.proofs.fit.host_rows_followed.Goals as goal

pub returns : goal.returns
returns c = host_followed
