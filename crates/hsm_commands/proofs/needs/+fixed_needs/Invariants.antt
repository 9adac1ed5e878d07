use Rattle.std.proofs.Common.{length}
use Rattle.hsm_commands.proofs.needs.+fixed_needs.Given as goal

abbrev pub decreases-fixed_needs : goal.decreases-fixed_needs
decreases-fixed_needs l = length l.needs.now
