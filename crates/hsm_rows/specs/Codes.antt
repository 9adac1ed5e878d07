-- The error codes that a row names.
use Rattle.std.specs.List.{range_with_len}
use Rattle.std.specs.Prelude.{ℕ, ◌-◌, Bool, false, ◌==◌, ◌||◌, if◌then◌else◌, List, [], ◌∷◌, ◌++◌, map, flat_map, filter, Option, Some, None, ◌⊎◌}
use Rattle.hsm_rows.specs.declared.row.Field.{Field}
use Rattle.hsm_rows.specs.Table.{RowShape, IsHostRow, IsConsoleRow, rules_of}
use Rattle.hsm_rows.specs.Reading.{is_console}
use Rattle.hsm_rows.specs.Rules.{RowRules}
use Rattle.hsm_rows.specs.declared.rules.KeyCheck.{KeyCheck}
use Rattle.hsm_rows.specs.declared.rules.KeyCheck.TheVariants.{GivenKey, Target}
use Rattle.hsm_rows.specs.declared.rules.PinSource.{PinSource}
use Rattle.hsm_rows.specs.declared.rules.PinSource.TheVariants.{NoPin, BlockPin, LmkPin, ClearPin, DrawnPin}
use Rattle.hsm_rows.specs.declared.rules.DataCheck.{DataCheck}
use Rattle.hsm_rows.specs.declared.rules.DataCheck.TheVariants.{TableCheck, PinCheck, LongerThan, ShorterThan, MacCheck}

-- whether a code is among these
abbrev pub is_among : ℕ → List ℕ → Bool
is_among code [] = false
is_among code (other ∷ codes) = code == other || is_among code codes

-- of a key: 26 and 27, and of a given one its parity code
abbrev pub key_codes : KeyCheck → List ℕ
key_codes (GivenKey k under ty wraps rule parity) = 26 ∷ 27 ∷ parity.0 ∷ []
key_codes (Target ty k second) = 26 ∷ 27 ∷ []

-- of the row's PIN: a block 20 and 24, a text under the LMK 14, clear digits 24
abbrev pub pin_codes : PinSource → List ℕ
pin_codes NoPin = []
pin_codes (BlockPin block key format account) = 20 ∷ 24 ∷ []
pin_codes (LmkPin text account) = 14 ∷ []
pin_codes (ClearPin text account) = 24 ∷ []
pin_codes (DrawnPin len account) = []

-- of a data check
abbrev pub data_codes : PinSource → DataCheck → List ℕ
data_codes pin (TableCheck k) = 25 ∷ []
data_codes pin PinCheck = pin_codes pin
data_codes pin (LongerThan k) = 24 ∷ []
data_codes pin (ShorterThan k) = 24 ∷ []
data_codes pin (MacCheck f) = 80 ∷ []

-- the code where there is something, and none else
abbrev pub where_some : {A : Type 0} → Option A → ℕ → List ℕ
where_some None code = []
where_some (Some a) code = code ∷ []

-- the code where there is at least one, and none else
abbrev pub where_any : {A : Type 0} → List A → ℕ → List ℕ
where_any [] code = []
where_any (a ∷ more) code = code ∷ []

-- of the checks behind the fields: 13 for the LMK set; the keys; 29 for a permit; 75 for equal parts; 17 for what must be granted; the data; 01 for a value that is compared
abbrev pub check_codes : RowRules → List ℕ
check_codes rules =
    13
    ∷ (flat_map key_codes rules.keys
    ++ (where_any rules.acts 29
    ++ (where_some rules.parts_differ 75
    ++ ((where_any rules.acts 17 ++ where_any rules.needs 17)
    ++ (flat_map (data_codes rules.pin) rules.checks ++ where_some rules.compared 1)))))

-- the codes that a row names, in any order: 00, 15, those of its fields and those of its checks
abbrev pub named_codes : RowShape → List ℕ
named_codes row = 0 ∷ 15 ∷ (map (λ (f : Field). f.code.0) row.fields ++ check_codes (rules_of row))

-- whether the row names the code
unfoldable pub names : RowShape → ℕ → Bool
names row code = is_among code (named_codes row)

-- the two-digit codes from this one on, in rising order
unfoldable pub codes_from : ℕ → List ℕ
codes_from code = range_with_len code (100 - code)

-- The codes that the answers of a host row bear, each once and in rising order. A console row has none.
unfoldable pub codes_of : RowShape → List ℕ
codes_of row = if is_console row then [] else filter (names row) (codes_from 0)

-- the row is one of the table's
abbrev pub IsRow : RowShape → Type 0
IsRow row = IsHostRow row ⊎ IsConsoleRow row
