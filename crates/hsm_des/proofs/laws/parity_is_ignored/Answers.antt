use Rattle.hsm_des.proofs.Parity.{round_keys-even_bytes}
use Rattle.hsm_des.proofs.laws.parity_is_ignored.Goals as goal

pub returns : goal.returns
returns c = round_keys-even_bytes
