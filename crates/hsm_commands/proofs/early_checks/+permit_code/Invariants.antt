use Rattle.std.proofs.Common.{length}
use Rattle.hsm_commands.proofs.early_checks.+permit_code.Given as goal

abbrev pub decreases-permit_code : goal.decreases-permit_code
decreases-permit_code l = length l.acts.now
