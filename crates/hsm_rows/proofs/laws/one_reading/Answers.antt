use Rattle.hsm_rows.proofs.Refusals.{reads_exactly, refuses_exactly}
use Rattle.hsm_rows.proofs.laws.one_reading.Goals as goal

pub returns : goal.returns
returns c = record { read = reads_exactly; refused = refuses_exactly }
