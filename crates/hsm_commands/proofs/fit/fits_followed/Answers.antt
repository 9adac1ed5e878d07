use Rattle.hsm_commands.proofs.FitLaws.{fits_followed}
use Rattle.hsm_commands.proofs.fit.fits_followed.Goals as goal

pub returns : goal.returns
returns c = fits_followed
