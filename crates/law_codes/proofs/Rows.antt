-- The host rows, and their codes.
use Rattle.std.proofs.Common.{◌≡◌, ℕ, Bool, true, false, not, ◌&&◌, List, Some, refl}
use Rattle.std.specs.List.{AllByRecursion, list_all}
use Rattle.hsm_rows.specs.declared.settings.Module.{Module}
use Rattle.hsm_rows.specs.Table.{RowShape, host_rows}
use Rattle.hsm_rows.proofs.RowLemmas.{all_by}
use Rattle.hsm_rows.specs.Reading.{is_console}
use Rattle.hsm_auth.specs.declared.activity.Place.TheVariants.{Host}
use Rattle.hsm_answers.specs.Messages.{enabled_row}
use Rattle.hsm_answers.proofs.ClearAnswers.{enabled_among}
use Rattle.hsm_rows.specs.Codes.{codes_from, codes_of, is_among, named_codes, names}

-- a host's row has each code that it names
pub record IsCoded (row : RowShape) : Type 0 where
  pub host : is_console row ≡ false
  pub named : list_all (λ code. is_among code (codes_of row)) (named_codes row) ≡ true

-- the test of a row for it
abbrev is_coded : RowShape → Bool
is_coded row = not (is_console row) && list_all (λ code. is_among code (codes_of row)) (named_codes row)

coded : (row : RowShape) → is_coded row ≡ true → IsCoded row
coded row h = by (is_console row) (list_all (λ code. is_among code (codes_of row)) (named_codes row)) refl refl h where
  by : (console named : Bool) → is_console row ≡ console → list_all (λ code. is_among code (codes_of row)) (named_codes row) ≡ named → (not console && named) ≡ true → IsCoded row
  by true named host is h = absurd (cc)
  by false true host is h = record { host = host; named = is }
  by false false host is h = absurd (cc)

all_coded : list_all is_coded host_rows ≡ true
unfolding host_rows codes_of codes_from names
all_coded = refl

host_coded : AllByRecursion IsCoded host_rows
host_coded = all_by IsCoded is_coded coded host_rows all_coded

pub enabled_coded : (m : Module) (code : List ℕ) (row : RowShape) → enabled_row m Host code ≡ Some row → IsCoded row
enabled_coded m code row found = enabled_among IsCoded m Host code row host_coded found
