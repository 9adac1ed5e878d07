use Rattle.hsm_modes.proofs.ModeLaws.{one_secret, one_clear}
use Rattle.hsm_modes.proofs.laws.one_list.Goals as goal

pub returns : goal.returns
returns c = record { secret = one_secret; clear = one_clear }
