use Rattle.std.proofs.Common.{length}
use Rattle.hsm_commands.proofs.data_checks.+check_data.Given as goal

abbrev pub decreases-check_data : goal.decreases-check_data
decreases-check_data l = length l.checks.now
