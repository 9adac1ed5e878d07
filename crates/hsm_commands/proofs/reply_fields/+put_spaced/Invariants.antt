use Rattle.std.proofs.Common.{length}
use Rattle.hsm_commands.proofs.reply_fields.+put_spaced.Given as goal

abbrev pub decreases-put_spaced : goal.decreases-put_spaced
decreases-put_spaced l = length l.terms.now
