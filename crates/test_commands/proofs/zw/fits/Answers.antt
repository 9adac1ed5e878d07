use Rattle.std.proofs.Common.{refl}
use Rattle.hsm_commands.specs.Fit.{rules_fit}
use Rattle.test_commands.specs.Row.{row_ZW}
use Rattle.test_commands.proofs.zw.fits.Goals as goal

pub returns : goal.returns
unfolding rules_fit row_ZW
returns c = refl
