use Rattle.law_made_scripts.proofs.Readings.{made_reads}
use Rattle.law_made_scripts.proofs.made_scripts_read.Goals as goal

pub returns : goal.returns
returns c = made_reads
