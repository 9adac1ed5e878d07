use Rattle.hsm_modes.proofs.ModeLaws.{parts_join, chains_join}
use Rattle.hsm_modes.proofs.laws.parts_join.Goals as goal

pub returns : goal.returns
returns c = record { parts = parts_join; chains = chains_join }
