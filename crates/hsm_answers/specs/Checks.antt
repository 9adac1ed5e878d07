-- The order of checks of a message whose fields read.
use Rattle.std.specs.Prelude.{ℕ, Bool, true, false, not, ◌&&◌, ◌||◌, nat_lt, if◌then◌else◌, List, [], ◌∷◌, ◌++◌, length, map, Option, Some, None}
use Rattle.std.specs.List.{list_any}
use Rattle.std.specs.Str.{bytes_eq}
use Rattle.hsm_tdes.specs.Tdes.{repeats_part}
use Rattle.hsm_types.specs.declared.types.KeyType.{KeyType}
use Rattle.hsm_types.specs.declared.types.Act.{Act}
use Rattle.hsm_types.specs.declared.types.Act.TheVariants.{Generate, Import, Export}
use Rattle.hsm_types.specs.declared.types.Permit.{Permit}
use Rattle.hsm_types.specs.declared.types.Permit.TheVariants as permit
use Rattle.hsm_types.specs.Table.{permit_of}
use Rattle.hsm_verify.specs.Values.{table_ok}
use Rattle.hsm_auth.specs.declared.activity.Category.{Category}
use Rattle.hsm_auth.specs.declared.activity.Category.TheVariants as category
use Rattle.hsm_auth.specs.declared.activity.Place.TheVariants as place
use Rattle.hsm_auth.specs.declared.activity.Activity.{Activity}
use Rattle.hsm_auth.specs.declared.entry.Granted.{Granted}
use Rattle.hsm_auth.specs.declared.entry.Granted.TheVariants as granted
use Rattle.hsm_rows.specs.declared.row.Secret.{Secret}
use Rattle.hsm_nibbles.specs.Characters.{digit_value}
use Rattle.hsm_rows.specs.Reading.{ReadText}
use Rattle.hsm_rows.specs.declared.rules.TypeSource.{TypeSource}
use Rattle.hsm_rows.specs.declared.rules.ActUse.{ActUse}
use Rattle.hsm_rows.specs.declared.rules.FixedNeed.{FixedNeed}
use Rattle.hsm_rows.specs.declared.rules.DataCheck.{DataCheck}
use Rattle.hsm_rows.specs.declared.rules.DataCheck.TheVariants.{TableCheck, PinCheck, LongerThan, ShorterThan, MacCheck}
use Rattle.hsm_answers.specs.Read.{ReadMessage}
use Rattle.hsm_answers.specs.Keys.{field_text, is_absent, type_of, keys_fault, first_code}
use Rattle.hsm_answers.specs.Pins.{digits_at, number_at, given_pin, pin_fault}
use Rattle.hsm_answers.specs.Macs.{mac_fault}
use Rattle.hsm_answers.specs.Values.{secret_key, row_value}

-- whether the LMK set that the message names is loaded
abbrev pub is_loaded : ReadMessage → Bool
is_loaded q = nat_lt q.read.set (length q.«module».lmks.items)

-- 13 where it isn't, whether the row uses it or not
abbrev pub set_fault : ReadMessage → Option ℕ
set_fault q = if is_loaded q then None else Some 13

-- the permit asks for an activity
abbrev pub is_needed : Permit → Bool
is_needed permit.Y = false
is_needed permit.A = true
is_needed permit.N = false

-- the permit forbids the act
abbrev pub is_forbidden : Permit → Bool
is_forbidden permit.Y = false
is_forbidden permit.A = false
is_forbidden permit.N = true

-- whether the row uses the act: always, or where the field is present
abbrev pub is_used : ReadText → Option ℕ → Bool
is_used r None = true
is_used r (Some k) = not (is_absent r k)

-- the permit of an act on the type that the row names
abbrev pub act_permit : ReadMessage → ActUse → Permit
act_permit q a = permit_of q.«module».permits (type_of q.read a.ty) a.act

-- 29 where a permit that the row uses is N
unfoldable pub permit_fault : ReadMessage → Option ℕ
permit_fault q = if list_any (λ (a : ActUse). is_used q.read a.where_present && is_forbidden (act_permit q a)) q.rules.acts then Some 29 else None

-- 75 where a part of the key equals the part before it; none of these keys is drawn
unfoldable pub parts_fault : ReadMessage → Option Secret → Option ℕ
parts_fault q None = None
parts_fault q (Some s) = if repeats_part (secret_key q 0 s) then Some 75 else None

-- the early checks, after the fields: their code is answered whatever the entry, which asks nothing
unfoldable pub early_fault : ReadMessage → Option ℕ
early_fault q = first_code (set_fault q ∷ keys_fault q q.rules.keys ∷ permit_fault q ∷ parts_fault q q.rules.parts_differ ∷ [])

-- the category of an act
abbrev pub category_of : Act → Category
category_of Generate = category.Generate
category_of Import = category.Import
category_of Export = category.Export

-- the activity of an act, at the host, under the set that the message names
abbrev pub act_activity : ReadText → ActUse → Activity
act_activity r a = record { category = category_of a.act; ty = Some (type_of r a.ty); place = Some place.Host; set = Some r.set }

-- the needs of the acts whose permit is A
abbrev pub act_needs : ReadMessage → List ActUse → List Activity
act_needs q [] = []
act_needs q (a ∷ more) =
    if is_used q.read a.where_present && is_needed (act_permit q a) then act_activity q.read a ∷ act_needs q more else act_needs q more

-- the type of a need, if it has one
abbrev pub need_type : ReadText → Option TypeSource → Option KeyType
need_type r None = None
need_type r (Some ty) = Some (type_of r ty)

-- the activity of a need, under the set that the message names
abbrev pub fixed_need : ReadText → FixedNeed → Activity
fixed_need r n = record { category = n.category; ty = need_type r n.ty; place = Some n.place; set = Some r.set }

-- the activities that the message needs
unfoldable pub needs_of : ReadMessage → List Activity
needs_of q = act_needs q q.rules.acts ++ map (fixed_need q.read) q.rules.needs

-- a need wasn't covered at the entry
abbrev pub is_refused : Granted → Bool
is_refused granted.Refused = true
is_refused _ = false

-- 17 where a need isn't covered at the entry
abbrev pub entry_fault : Granted → Option ℕ
entry_fault g = if is_refused g then Some 17 else None

-- what a data check finds
unfoldable pub data_fault : ReadMessage → DataCheck → Option ℕ
data_fault q (TableCheck k) = if table_ok (digits_at q.read k) then None else Some 25
data_fault q PinCheck = pin_fault q q.rules.pin
data_fault q (LongerThan k) = if nat_lt (number_at q.read k) (length (given_pin q)) then Some 24 else None
data_fault q (ShorterThan k) = if nat_lt (length (given_pin q)) (number_at q.read k) then Some 24 else None
data_fault q (MacCheck f) = mac_fault q.read f

-- the first data check, in the row's order, that finds something
unfoldable pub checks_fault : ReadMessage → Option ℕ
checks_fault q = first_code (map (data_fault q) q.rules.checks)

-- 01 where the given value isn't the row's value; letters may be of either case
unfoldable pub compared_fault : ReadMessage → Option ℕ → Option ℕ
compared_fault q None = None
compared_fault q (Some k) =
    if is_absent q.read k || bytes_eq (map digit_value (field_text q.read k)) (map digit_value (row_value q q.rules.value)) then None else Some 1

-- the late checks: their code comes after that of a need which was not covered at the entry
unfoldable pub late_fault : ReadMessage → Option ℕ
late_fault q = first_code (checks_fault q ∷ compared_fault q q.rules.compared ∷ [])

-- the code of the first check that fails, of those after the fields
unfoldable pub check_read : ReadMessage → Granted → Option ℕ
check_read q g = first_code (early_fault q ∷ entry_fault g ∷ late_fault q ∷ [])
