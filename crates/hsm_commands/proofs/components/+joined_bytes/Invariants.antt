use Rattle.std.proofs.Common.{length}
use Rattle.hsm_commands.proofs.components.+joined_bytes.Given as goal

abbrev pub decreases-joined_bytes : goal.decreases-joined_bytes
decreases-joined_bytes l = length l.components.now
