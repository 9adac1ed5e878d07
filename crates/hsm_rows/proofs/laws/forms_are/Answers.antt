use Rattle.hsm_rows.proofs.StandingTexts.{forms_are, one_text}
use Rattle.hsm_rows.proofs.laws.forms_are.Goals as goal

pub returns : goal.returns
returns c = record { stand = forms_are; one = one_text }
