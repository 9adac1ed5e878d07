use Rattle.hsm_rows.proofs.ConsoleStands.{authorisation_stands}
use Rattle.hsm_rows.proofs.laws.console_texts_stand.Goals as goal

pub returns : goal.returns
returns c = record { authorisation = authorisation_stands }
