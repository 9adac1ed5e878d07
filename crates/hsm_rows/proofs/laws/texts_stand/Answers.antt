use Rattle.hsm_rows.proofs.StandingTexts.{texts_stand, are_texts, console_texts}
use Rattle.hsm_rows.proofs.laws.texts_stand.Goals as goal

pub returns : goal.returns
returns c = record { stand = texts_stand; are = are_texts; console = console_texts }
