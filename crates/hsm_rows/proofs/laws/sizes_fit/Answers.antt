use Rattle.hsm_rows.proofs.Within.{sizes_fit}
use Rattle.hsm_rows.proofs.laws.sizes_fit.Goals as goal

pub returns : goal.returns
returns c = sizes_fit
