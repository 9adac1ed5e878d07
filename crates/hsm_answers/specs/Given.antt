-- What the code that the command crates share answers.
use Rattle.std.specs.Prelude.{ℕ, ◌||◌, if◌then◌else◌, List, map, Option, Some, None, Result, Ok, Err}
use Rattle.std.specs.Str.{bytes_eq}
use Rattle.hsm_auth.specs.declared.activity.Activity.{Activity}
use Rattle.hsm_auth.specs.declared.activity.Place.TheVariants.{Host}
use Rattle.hsm_types.specs.declared.types.Act.{Act}
use Rattle.hsm_types.specs.declared.types.KeyType.{KeyType}
use Rattle.hsm_nibbles.specs.Characters.{digit_value}
use Rattle.hsm_rows.specs.declared.row.Code.{Code}
use Rattle.hsm_rows.specs.Reading.{is_end}
use Rattle.hsm_answers.specs.declared.keys.KeyGiven.{KeyGiven}
use Rattle.hsm_answers.specs.Keys.{KeyData}
use Rattle.hsm_answers.specs.Checks.{category_of}

-- what the code keeps of a key text
abbrev pub data_of : KeyGiven → KeyData
data_of k = record { scheme = k.scheme; bytes = k.bytes.items }

-- the code of a refusal
abbrev pub code_in : {K : Type 0} → Result K Code → Option ℕ
code_in (Ok k) = None
code_in (Err code) = Some code.0

-- the activity of an act on the type, at a host, under the set
abbrev pub host_activity : Act → KeyType → ℕ → Activity
host_activity act ty n = record { category = category_of act; ty = Some ty; place = Some Host; set = Some n }

-- 01 where a value is given that isn't the one that is written; letters may be of either case
abbrev pub compared_code : List ℕ → List ℕ → Option ℕ
compared_code given written = if is_end given || bytes_eq (map digit_value given) (map digit_value written) then None else Some 1
