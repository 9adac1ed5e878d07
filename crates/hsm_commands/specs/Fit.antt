-- Whether the rules of a row fit its forms, so that they can be followed whatever texts it reads: one test of a row, which computes.
use Rattle.std.specs.Prelude.{ℕ, zero, suc, Bool, true, false, not, ◌&&◌, ◌||◌, ◌==◌, nat_le, nat_lt, if◌then◌else◌, List, [], ◌∷◌, length, map, Option, Some, None}
use Rattle.hsm_rows.specs.declared.row.Form.{Form}
use Rattle.hsm_rows.specs.declared.row.Form.TheVariants as form
use Rattle.hsm_rows.specs.declared.row.Field.{Field}
use Rattle.hsm_rows.specs.declared.row.Secret.{Secret}
use Rattle.hsm_rows.specs.declared.row.Secret.TheVariants as secret
use Rattle.hsm_rows.specs.declared.row.Public.TheVariants as public
use Rattle.hsm_rows.specs.declared.rules.KeyCheck.{KeyCheck}
use Rattle.hsm_rows.specs.declared.rules.KeyCheck.TheVariants.{GivenKey, Target}
use Rattle.hsm_rows.specs.declared.rules.LengthRule.{LengthRule}
use Rattle.hsm_rows.specs.declared.rules.LengthRule.TheVariants.{AnyLength, AsScheme, FlagPlusOne, TwoForAlgorithmThree}
use Rattle.hsm_rows.specs.declared.rules.Under.TheVariants.{Lmk, KeyAt}
use Rattle.hsm_rows.specs.declared.rules.DataCheck.{DataCheck}
use Rattle.hsm_rows.specs.declared.rules.DataCheck.TheVariants.{TableCheck, PinCheck, LongerThan, ShorterThan, MacCheck}
use Rattle.hsm_rows.specs.declared.rules.MacFields.{MacFields}
use Rattle.hsm_rows.specs.declared.rules.AskKind.{AskKind}
use Rattle.hsm_rows.specs.declared.rules.AskKind.TheVariants.{AuthoriseAsk}
use Rattle.hsm_rows.specs.Rules.{RowRules}
use Rattle.hsm_rows.specs.Table.{RowShape, Term, plain_text, term, rules_of}
use Rattle.hsm_rows.specs.Reading.{is_console}
use Rattle.hsm_commands.specs.Demands.{Demand, so, has_digits, has_hex16, has_length, has_clear_pin, has_validation, has_pan, has_account, account_field, has_mac_texts, has_key, has_pair, has_key_under, fits_algorithm, has_sound_data, has_least, fits_scheme, can_wrap, has_components, have_pin, pin_demands, check_demands, value_demands, word_demands, parts_demands, term_demands}
use Rattle.hsm_commands.specs.Plans.{echoes}

-- ---- forms

-- n decimal digits
abbrev pub is_digits : ℕ → Form → Bool
is_digits n form.Digits1 = n == 1
is_digits n form.Digits3 = n == 3
is_digits n form.Digits4 = n == 4
is_digits n form.Digits12 = n == 12
is_digits n form.Digits16 = n == 16
is_digits n _ = false

-- 16 hexadecimal digits
abbrev pub is_hex16 : Form → Bool
is_hex16 form.Hex16 = true
is_hex16 _ = false

-- the length of a PIN
abbrev pub is_length : Form → Bool
is_length form.Length = true
is_length _ = false

-- twelve characters, digits and then F
abbrev pub is_clear_pin : Form → Bool
is_clear_pin form.ClearPin = true
is_clear_pin _ = false

-- a pair of keys
abbrev pub is_pair : Form → Bool
is_pair form.Pair = true
is_pair _ = false

-- validation data
abbrev pub is_validation : Form → Bool
is_validation form.Validation = true
is_validation _ = false

-- a short text of fixed size: digits, a block or a format
abbrev pub is_brief : Form → Bool
is_brief form.Digits1 = true
is_brief form.Digits3 = true
is_brief form.Digits4 = true
is_brief form.Digits12 = true
is_brief form.Digits16 = true
is_brief form.Hex16 = true
is_brief form.Format = true
is_brief _ = false

-- an account number
abbrev pub is_account : Form → Bool
is_account form.Account = true
is_account _ = false

-- a count
abbrev pub is_count : Form → Bool
is_count form.Count = true
is_count _ = false

-- data, hexadecimal by input field i
abbrev pub is_data_by : ℕ → Form → Bool
is_data_by i (form.DataByInput j) = i == j
is_data_by i _ = false

-- a chaining value in modes 2 and 3
abbrev pub is_chain : Form → Bool
is_chain form.Mode23Chain = true
is_chain _ = false

-- the scheme of a key under the LMK
abbrev pub is_scheme_form : Form → Bool
is_scheme_form form.Scheme = true
is_scheme_form _ = false

-- a component of a key of the scheme in field j
abbrev pub is_component : ℕ → Form → Bool
is_component j (form.Component i) = j == i
is_component j _ = false

-- the same, or one that may be left out
abbrev pub may_be_component : ℕ → Form → Bool
may_be_component j (form.Component i) = j == i
may_be_component j (form.LastComponent i) = j == i
may_be_component j _ = false

-- the minutes of a grant
abbrev pub is_minutes_form : Form → Bool
is_minutes_form form.Minutes = true
is_minutes_form _ = false

-- field k has a form that passes the test
abbrev pub form_at : (Form → Bool) → List Field → ℕ → Bool
form_at test [] k = false
form_at test (f ∷ fs) zero = test f.form
form_at test (f ∷ fs) (suc k) = form_at test fs k

-- ---- keys

-- the check opens field k under the LMK
abbrev pub opens : ℕ → KeyCheck → Bool
opens k (GivenKey j Lmk ty wraps rule parity) = k == j
opens k (GivenKey j (KeyAt kek) ty wraps rule parity) = false
opens k (Target ty j second) = false

-- its key is of another field
abbrev pub differs_from : ℕ → KeyCheck → Bool
differs_from k (GivenKey j under ty wraps rule parity) = not (k == j)
differs_from k (Target ty j second) = true

-- its key wraps another
abbrev pub wraps_key : KeyCheck → Bool
wraps_key (GivenKey j under ty wraps rule parity) = wraps
wraps_key (Target ty j second) = false

-- the key of field k is opened under the LMK, and can't be absent
abbrev pub opens_in : ℕ → List KeyCheck → Bool
opens_in k [] = false
opens_in k (a ∷ []) = opens k a && not (wraps_key a)
opens_in k (a ∷ b ∷ more) = (opens k a && not (wraps_key a)) || (differs_from k a && (opens k b && not (wraps_key b)))

-- a key that is under the LMK, or is made
abbrev pub is_own : KeyCheck → Bool
is_own (GivenKey j Lmk ty wraps rule parity) = true
is_own (GivenKey j (KeyAt kek) ty wraps rule parity) = false
is_own (Target ty j second) = true

-- the second key: of another field than the first, and under the LMK or under the first, which wraps
abbrev pub follows : KeyCheck → KeyCheck → Bool
follows a (GivenKey k Lmk ty wraps rule parity) = differs_from k a
follows a (GivenKey k (KeyAt kek) ty wraps rule parity) = (not wraps && wraps_key a) && (opens kek a && differs_from k a)
follows a (Target ty k second) = true

-- at most two keys
abbrev pub keys_fit : List KeyCheck → Bool
keys_fit [] = true
keys_fit (a ∷ []) = is_own a
keys_fit (a ∷ b ∷ []) = is_own a && follows a b
keys_fit (a ∷ b ∷ c ∷ more) = false

-- the second key is of field k, under that of field kek
abbrev pub is_under : ℕ → ℕ → KeyCheck → Bool
is_under k kek (GivenKey j (KeyAt i) ty wraps rule parity) = k == j && kek == i
is_under k kek (GivenKey j Lmk ty wraps rule parity) = false
is_under k kek (Target ty j second) = false

abbrev pub opens_under : ℕ → ℕ → List KeyCheck → Bool
opens_under k kek [] = false
opens_under k kek (a ∷ []) = false
opens_under k kek (a ∷ b ∷ more) = is_under k kek b && differs_from k a

-- the key's parts are those of the scheme in field j
abbrev pub is_scheme : ℕ → LengthRule → Bool
is_scheme j AnyLength = false
is_scheme j (AsScheme i) = j == i
is_scheme j (FlagPlusOne i) = false
is_scheme j (TwoForAlgorithmThree i) = false

abbrev pub is_sized : ℕ → KeyCheck → Bool
is_sized j (GivenKey i under ty wraps rule parity) = is_scheme j rule
is_sized j (Target ty k second) = false

abbrev pub sizes_in : ℕ → ℕ → List KeyCheck → Bool
sizes_in k j [] = false
sizes_in k j (a ∷ []) = (opens k a && not (wraps_key a)) && is_sized j a
sizes_in k j (a ∷ b ∷ more) = ((opens k a && not (wraps_key a)) && is_sized j a) || ((opens k b && not (wraps_key b)) && is_sized j b)

abbrev pub sizes_under : ℕ → ℕ → ℕ → List KeyCheck → Bool
sizes_under k kek j [] = false
sizes_under k kek j (a ∷ []) = false
sizes_under k kek j (a ∷ b ∷ more) = is_under k kek b && is_sized j b

-- the key has two parts where algorithm field j is 3
abbrev pub is_three : ℕ → LengthRule → Bool
is_three j AnyLength = false
is_three j (AsScheme i) = false
is_three j (FlagPlusOne i) = false
is_three j (TwoForAlgorithmThree i) = j == i

abbrev pub takes_three : ℕ → KeyCheck → Bool
takes_three j (GivenKey i under ty wraps rule parity) = is_three j rule
takes_three j (Target ty k second) = false

abbrev pub takes_in : ℕ → ℕ → List KeyCheck → Bool
takes_in k j [] = false
takes_in k j (a ∷ more) = (opens k a && not (wraps_key a)) && takes_three j a

-- the key of field k is opened under the LMK where it is present, and has two or three parts
abbrev pub wraps_in : ℕ → List KeyCheck → Bool
wraps_in k [] = false
wraps_in k (a ∷ []) = opens k a && wraps_key a
wraps_in k (a ∷ b ∷ more) = (opens k a && wraps_key a) || (differs_from k a && (opens k b && wraps_key b))

-- the schemes of fields k and j are of one length, where both are there
abbrev pub is_second : ℕ → Option ℕ → Bool
is_second j None = false
is_second j (Some i) = j == i

abbrev pub is_target : ℕ → ℕ → KeyCheck → Bool
is_target k j (GivenKey i under ty wraps rule parity) = false
is_target k j (Target ty i second) = k == i && is_second j second

abbrev pub targets_in : ℕ → ℕ → List KeyCheck → Bool
targets_in k j [] = false
targets_in k j (a ∷ more) = is_target k j a

-- ---- demands

-- the field before is a count
abbrev pub is_counted : List Field → ℕ → Bool
is_counted fs zero = false
is_counted fs (suc k) = form_at is_count fs k

-- the fields of a MAC's data
abbrev pub mac_fits : List Field → MacFields → Bool
mac_fits fs f =
    (f.mode == 0 && nat_lt 0 f.chain) && ((form_at is_chain fs f.chain && form_at (is_data_by f.input) fs f.message) && (nat_lt f.input f.message && is_counted fs f.message))

-- the same fields
abbrev pub same_mac : MacFields → MacFields → Bool
same_mac f g =
    (f.mode == g.mode && (f.input == g.input && (f.size == g.size && f.algorithm == g.algorithm)))
    && (f.padding == g.padding && (f.key == g.key && (f.chain == g.chain && f.message == g.message)))

-- the MAC's data is checked
abbrev pub is_mac : MacFields → DataCheck → Bool
is_mac f (MacCheck g) = same_mac g f
is_mac f (TableCheck k) = false
is_mac f PinCheck = false
is_mac f (LongerThan k) = false
is_mac f (ShorterThan k) = false

abbrev pub has_mac : MacFields → List DataCheck → Bool
has_mac f [] = false
has_mac f (c ∷ cs) = is_mac f c || has_mac f cs

-- a PIN shorter than field k says is refused
abbrev pub is_shorter : ℕ → DataCheck → Bool
is_shorter k (ShorterThan j) = k == j
is_shorter k (LongerThan j) = false
is_shorter k (TableCheck j) = false
is_shorter k PinCheck = false
is_shorter k (MacCheck f) = false

abbrev pub has_shorter : ℕ → List DataCheck → Bool
has_shorter k [] = false
has_shorter k (c ∷ cs) = is_shorter k c || has_shorter k cs

-- a key has as many parts as the scheme that it is written in under the LMK
abbrev pub sealed_fits : RowRules → Secret → Bool
sealed_fits rules (secret.Opened k) = sizes_in k rules.made.scheme rules.keys
sealed_fits rules (secret.OpenedUnder k kek) = sizes_under k kek rules.made.scheme rules.keys
sealed_fits rules secret.DrawnKey = true
sealed_fits rules secret.Joined = true

-- and under a wrapping key
abbrev pub wrapped_fits : RowRules → Secret → Bool
wrapped_fits rules (secret.Opened k) = sizes_in k rules.made.wrap_scheme rules.keys
wrapped_fits rules secret.DrawnKey = targets_in rules.made.scheme rules.made.wrap_scheme rules.keys
wrapped_fits rules (secret.OpenedUnder k kek) = false
wrapped_fits rules secret.Joined = false

-- the field is there and has 12 decimal digits
abbrev pub has_twelve : List Field → Option ℕ → Bool
has_twelve fs None = false
has_twelve fs (Some k) = form_at (is_digits 12) fs k

-- the fields are components of a key of the scheme in the earlier field j, or may be left out
abbrev pub others_fit : List Field → ℕ → List ℕ → Bool
others_fit fs j [] = true
others_fit fs j (k ∷ ks) = (nat_lt j k && form_at (may_be_component j) fs k) && others_fit fs j ks

-- the same, and the first is never left out
abbrev pub components_fit : List Field → ℕ → List ℕ → Bool
components_fit fs j [] = false
components_fit fs j (k ∷ ks) = form_at is_scheme_form fs j && ((nat_lt j k && form_at (is_component j) fs k) && others_fit fs j ks)

module _ (fs : List Field) (rules : RowRules) where
  -- the row meets the demand, whatever texts are read
  abbrev pub meets : Demand → Bool
  meets (so fact) = fact
  meets (has_digits n k) = form_at (is_digits n) fs k
  meets (has_hex16 k) = form_at is_hex16 fs k
  meets (has_length k) = form_at is_length fs k
  meets (has_clear_pin k) = form_at is_clear_pin fs k
  meets (has_validation k) = form_at is_validation fs k
  meets (has_pan k) = form_at is_account fs k
  meets (has_account source) = has_twelve fs (account_field source)
  meets (has_mac_texts f) = mac_fits fs f
  meets (has_key k) = opens_in k rules.keys
  meets (has_pair k) = opens_in k rules.keys && form_at is_pair fs k
  meets (has_key_under k kek) = opens_under k kek rules.keys
  meets (fits_algorithm f) = takes_in f.key f.algorithm rules.keys
  meets (has_sound_data f) = has_mac f rules.checks
  meets (has_least k) = has_shorter k rules.checks
  meets (fits_scheme s) = sealed_fits rules s
  meets (can_wrap s kek) = wraps_in kek rules.keys && wrapped_fits rules s
  meets (has_components ks) = components_fit fs rules.made.scheme ks

  -- all of them
  abbrev pub meets_all : List Demand → Bool
  meets_all [] = true
  meets_all (d ∷ ds) = meets d && meets_all ds

  -- all of each list
  abbrev pub meets_each : List (List Demand) → Bool
  meets_each [] = true
  meets_each (ds ∷ more) = meets_all ds && meets_each more

-- the reply field is short: a given text is of fixed size
abbrev pub is_short : List Field → Term → Bool
is_short fs (plain_text t) = nat_le (length t) 600
is_short fs (term (public.Given k)) = form_at is_brief fs k
is_short fs (term _) = true

abbrev pub are_short : List Field → List Term → Bool
are_short fs [] = true
are_short fs (t ∷ ts) = is_short fs t && are_short fs ts

-- the row has a count and one more field, which alone is the reply
abbrev pub echoes_second : List Field → List Term → Bool
echoes_second (a ∷ b ∷ []) (term (public.Given k) ∷ []) = is_count a.form && k == 1
echoes_second _ _ = false

-- there is room for the reply fields
abbrev pub room_fits : List Field → List Term → Bool
room_fits fs ts = if echoes ts then echoes_second fs ts else are_short fs ts

-- an authorisation has its minutes in field 1
abbrev pub ask_fits : List Field → AskKind → Bool
ask_fits fs AuthoriseAsk = form_at is_minutes_form fs 1
ask_fits fs _ = true

-- the steps of the rules of a row have what they demand
abbrev pub all_fit : List Field → RowRules → List Term → List Bool
all_fit fs rules terms =
    nat_le (length fs) 12 ∷ nat_le (length terms) 9 ∷ keys_fit rules.keys ∷ have_pin false rules.checks ∷ ask_fits fs rules.ask
    ∷ meets_all fs rules (parts_demands rules rules.parts_differ) ∷ meets_all fs rules (pin_demands rules.pin) ∷ meets_each fs rules (map (check_demands rules.pin) rules.checks)
    ∷ meets_all fs rules (value_demands rules rules.value) ∷ meets_all fs rules (word_demands rules rules.words) ∷ meets_each fs rules (map (term_demands rules) terms) ∷ []

-- every test holds
abbrev pub all_true : List Bool → Bool
all_true [] = true
all_true (b ∷ bs) = b && all_true bs

-- the row is the console's or has a reply code of two characters, and its rules fit its forms
unfoldable pub rules_fit : RowShape → Bool
rules_fit row = ((is_console row || length row.reply == 2) && room_fits row.fields row.terms) && all_true (all_fit row.fields (rules_of row) row.terms)
