-- The rules of every row fit its forms.
use Rattle.std.proofs.Common.{◌≡◌, true, refl}
use Rattle.std.specs.List.{list_all}
use Rattle.hsm_rows.specs.Table.{RowShape, IsHostRow, IsConsoleRow, host_rows, console_rows}
use Rattle.hsm_rows.proofs.RowLemmas.{passes}
use Rattle.hsm_commands.specs.Fit.{rules_fit}
use Rattle.hsm_commands.specs.Plans.{IsFollowed}
use Rattle.hsm_commands.proofs.FitLaws.{fits_followed}

hosts_fit : list_all rules_fit host_rows ≡ true
unfolding rules_fit host_rows
hosts_fit = refl

pub host_fits : (row : RowShape) → IsHostRow row → rules_fit row ≡ true
host_fits row (k, l, e) = passes rules_fit host_rows row k hosts_fit l e

pub host_followed : (row : RowShape) → IsHostRow row → IsFollowed row
host_followed row host = fits_followed row (host_fits row host)

consoles_fit : list_all rules_fit console_rows ≡ true
unfolding rules_fit console_rows
consoles_fit = refl

pub console_fits : (row : RowShape) → IsConsoleRow row → rules_fit row ≡ true
console_fits row (k, l, e) = passes rules_fit console_rows row k consoles_fit l e

pub console_followed : (row : RowShape) → IsConsoleRow row → IsFollowed row
console_followed row console = fits_followed row (console_fits row console)
