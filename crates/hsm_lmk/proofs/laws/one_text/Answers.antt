use Rattle.hsm_lmk.proofs.SealedLaws.{sealed_is_sealed, one_text}
use Rattle.hsm_lmk.proofs.laws.one_text.Goals as goal

pub returns : goal.returns
returns c = record { some = sealed_is_sealed; most = one_text }
