-- What each step of a row's rules demands of the row, so that it can be followed whatever texts are read: said once, as a list of demands. `Met` is what a demand
-- means for the texts and keys of a message; `Fit` has the test of a row by which it is met.
use Rattle.std.specs.Prelude.{◌≡◌, ℕ, ◌≤◌, ◌+◌, ◌||◌, ◌==◌, if◌then◌else◌, Bool, true, false, ◌&&◌, List, [], ◌∷◌, length, Option, Some, None, is_some}
use Rattle.hsm_types.specs.Schemes.{scheme_parts}
use Rattle.hsm_mac.specs.Macs.{takes_key}
use Rattle.hsm_rows.specs.declared.rules.PinSource.{PinSource}
use Rattle.hsm_rows.specs.declared.rules.PinSource.TheVariants.{NoPin, BlockPin, LmkPin, ClearPin, DrawnPin}
use Rattle.hsm_rows.specs.declared.rules.DataCheck.{DataCheck}
use Rattle.hsm_rows.specs.declared.rules.DataCheck.TheVariants.{TableCheck, PinCheck, LongerThan, ShorterThan, MacCheck}
use Rattle.hsm_rows.specs.declared.rules.MacFields.{MacFields}
use Rattle.hsm_rows.specs.declared.rules.ValueSource.{ValueSource}
use Rattle.hsm_rows.specs.declared.rules.ValueSource.TheVariants.{NoValue, PvvOf, OffsetOf, CvvOf, MacOf}
use Rattle.hsm_rows.specs.declared.rules.Words.{Words}
use Rattle.hsm_rows.specs.declared.rules.Words.TheVariants.{NoWords, TwoPerPart, AsLength, FillOf}
use Rattle.hsm_rows.specs.declared.row.Secret.{Secret}
use Rattle.hsm_rows.specs.declared.row.Secret.TheVariants.{Opened, OpenedUnder, DrawnKey, Joined}
use Rattle.hsm_rows.specs.declared.row.Public.{Public}
use Rattle.hsm_rows.specs.declared.row.Public.TheVariants.{Given, Fixed, Sealed, SealedUnder, CheckValue, SealedPin, BlockUnder, PinLength, Value, Chain, LmkCheck, LiveGrants, Hosts, Done, Cancelled, Grants, Numbers, Notes, ShowKey, ShowPin}
use Rattle.hsm_rows.specs.Table.{Term, plain_text, term}
use Rattle.hsm_rows.specs.Rules.{RowRules}
use Rattle.hsm_rows.specs.Reading.{ReadText}
use Rattle.hsm_rows.specs.Standing.{AreDigits, AreHexDigits, IsLength, IsValidation, IsAccount}
use Rattle.hsm_answers.specs.Read.{ReadMessage}
use Rattle.hsm_answers.specs.Keys.{field_text, is_absent, scheme_at, lmk_key, wrapped_key}
use Rattle.hsm_answers.specs.Pins.{given_pin, number_at}
use Rattle.hsm_answers.specs.Macs.{mac_algorithm, mac_fault}
use Rattle.hsm_answers.specs.Draws.{drawn_key}
use Rattle.hsm_answers.specs.Checks.{checks_fault}
use Rattle.hsm_answers.specs.Values.{made_parts, made_scheme}
use Rattle.hsm_commands.specs.declared.keys.OpenedKeys.{OpenedKeys}
use Rattle.hsm_commands.specs.Opened.{key_by}
use Rattle.hsm_commands.specs.Components.{AreComponents}
use Rattle.hsm_commands.specs.Macs.{AreMacTexts}

-- ---- the PIN and the random words of a row

-- a PIN is given
abbrev pub gives_pin : PinSource → Bool
gives_pin NoPin = false
gives_pin (BlockPin block key format account) = true
gives_pin (LmkPin text account) = true
gives_pin (ClearPin text account) = true
gives_pin (DrawnPin len account) = false

-- whether a PIN is there at the entry: one that was given and is held, or one to be drawn
abbrev pub pin_there : PinSource → Bool → Bool
pin_there (DrawnPin len account) held = true
pin_there _ held = held

-- whether the PIN is held after the check
abbrev pub pin_after : Bool → DataCheck → Bool
pin_after held PinCheck = true
pin_after held _ = held

-- whether the PIN is held after all of them
abbrev pub pin_at_end : Bool → List DataCheck → Bool
pin_at_end held [] = held
pin_at_end held (c ∷ cs) = pin_at_end (pin_after held c) cs

-- the check has the PIN that it needs: where it needs one the PIN was read before
abbrev pub has_pin : Bool → DataCheck → Bool
has_pin held (LongerThan k) = held
has_pin held (ShorterThan k) = held
has_pin held _ = true

-- each check has the PIN that it needs
abbrev pub have_pin : Bool → List DataCheck → Bool
have_pin held [] = true
have_pin held (c ∷ cs) = has_pin held c && have_pin (pin_after held c) cs

-- the PIN that was given is held after the data checks
abbrev pub holds_pin : RowRules → Bool
holds_pin rules = gives_pin rules.pin && pin_at_end false rules.checks

-- the words are those of a key
abbrev pub draws_key : Words → Bool
draws_key (TwoPerPart k) = true
draws_key _ = false

-- the words are those of the fill of the format in this field
abbrev pub fills : ℕ → Words → Bool
fills format (FillOf k) = format == k
fills format _ = false

-- ---- demands

pub data Demand : Type 0 where
  -- a fact of the rules alone
  so : Bool → Demand
  -- so many decimal digits in field k
  has_digits : ℕ → ℕ → Demand
  -- 16 hexadecimal digits
  has_hex16 : ℕ → Demand
  -- the length of a PIN
  has_length : ℕ → Demand
  -- a clear PIN of 12 characters
  has_clear_pin : ℕ → Demand
  -- validation data
  has_validation : ℕ → Demand
  -- an account number that ends with a semicolon
  has_pan : ℕ → Demand
  -- the account of a PIN, 12 decimal digits
  has_account : PinSource → Demand
  -- the texts that the mode and the input format of a MAC speak of
  has_mac_texts : MacFields → Demand
  -- the key of field k, opened under the LMK
  has_key : ℕ → Demand
  -- the same, of two parts
  has_pair : ℕ → Demand
  -- the key of field k, opened under that of field kek
  has_key_under : ℕ → ℕ → Demand
  -- a MAC's key of as many parts as its algorithm takes
  fits_algorithm : MacFields → Demand
  -- the data of a MAC, where the data checks hold
  has_sound_data : MacFields → Demand
  -- at least as many digits of the PIN as field k says, where the data checks hold
  has_least : ℕ → Demand
  -- a key of as many parts as the scheme that it is written in under the LMK
  fits_scheme : Secret → Demand
  -- a key that can be written under that of field kek, where both are there
  can_wrap : Secret → ℕ → Demand
  -- the components of the key that is made
  has_components : List ℕ → Demand

-- the field of a PIN's account
abbrev pub account_field : PinSource → Option ℕ
account_field NoPin = None
account_field (BlockPin block key format account) = Some account
account_field (LmkPin text account) = Some account
account_field (ClearPin text account) = Some account
account_field (DrawnPin len account) = Some account

-- the field is there and has 12 decimal digits
abbrev pub IsTwelveDigits : ReadText → Option ℕ → Type 0
IsTwelveDigits r None = ⊥
IsTwelveDigits r (Some k) = AreDigits 12 (field_text r k)

-- the number of parts of a key
abbrev pub secret_parts : ReadMessage → Secret → ℕ
secret_parts q (Opened k) = length (lmk_key q k)
secret_parts q (OpenedUnder k kek) = length (wrapped_key q k kek)
secret_parts q _ = made_parts q

module _ (q : ReadMessage) (keys : OpenedKeys) where
  -- the key of field k was opened under the LMK
  abbrev pub HasKey : ℕ → Type 0
  HasKey k = key_by keys k ≡ Some (lmk_key q k)

  -- the secret can be written under the key of field kek
  pub record CanWrap (secret : Secret) (kek : ℕ) : Type 0 where
    pub key : HasKey kek
    pub long : 2 ≤ length (lmk_key q kek)
    pub parts : secret_parts q secret ≡ scheme_parts (scheme_at q.read q.rules.made.wrap_scheme)

  -- what a demand means
  abbrev pub Met : Demand → Type 0
  Met (so fact) = fact ≡ true
  Met (has_digits n k) = AreDigits n (field_text q.read k)
  Met (has_hex16 k) = AreHexDigits 16 (field_text q.read k)
  Met (has_length k) = IsLength (field_text q.read k)
  Met (has_clear_pin k) = length (field_text q.read k) ≡ 12
  Met (has_validation k) = IsValidation (field_text q.read k)
  Met (has_pan k) = IsAccount (field_text q.read k)
  Met (has_account source) = IsTwelveDigits q.read (account_field source)
  Met (has_mac_texts f) = AreMacTexts q.read f
  Met (has_key k) = HasKey k
  Met (has_pair k) = HasKey k × (length (lmk_key q k) ≡ 2)
  Met (has_key_under k kek) = key_by keys k ≡ Some (wrapped_key q k kek)
  Met (fits_algorithm f) = takes_key (mac_algorithm q.read f) (lmk_key q f.key) ≡ true
  Met (has_sound_data f) = checks_fault q ≡ None → mac_fault q.read f ≡ None
  Met (has_least k) = checks_fault q ≡ None → number_at q.read k ≤ length (given_pin q)
  Met (fits_scheme s) = secret_parts q s ≡ made_parts q
  Met (can_wrap s kek) = (is_absent q.read kek || is_absent q.read q.rules.made.wrap_scheme) ≡ false → CanWrap s kek
  Met (has_components ks) = AreComponents (made_scheme q) q.read ks

  -- all of them are met
  abbrev pub AllMet : List Demand → Type 0
  AllMet [] = Unit {0}
  AllMet (d ∷ ds) = Met d × AllMet ds

  -- all of each list are
  abbrev pub EachMet : List (List Demand) → Type 0
  EachMet [] = Unit {0}
  EachMet (ds ∷ more) = AllMet ds × EachMet more

-- ---- the demands of each step

-- the fields of a PIN
abbrev pub pin_demands : PinSource → List Demand
pin_demands NoPin = []
pin_demands (BlockPin block key format account) = has_key key ∷ has_hex16 block ∷ has_digits 12 account ∷ []
pin_demands (LmkPin text account) = has_hex16 text ∷ has_digits 12 account ∷ []
pin_demands (ClearPin text account) = has_clear_pin text ∷ has_digits 12 account ∷ []
pin_demands (DrawnPin len account) = has_length len ∷ has_digits 12 account ∷ []

-- a PIN that is given
abbrev pub given_demands : PinSource → List Demand
given_demands source = so (gives_pin source) ∷ pin_demands source

-- a check of the data
abbrev pub check_demands : PinSource → DataCheck → List Demand
check_demands pin (TableCheck k) = has_digits 16 k ∷ []
check_demands pin PinCheck = given_demands pin
check_demands pin (LongerThan k) = []
check_demands pin (ShorterThan k) = []
check_demands pin (MacCheck f) = has_mac_texts f ∷ []

-- the value of the PIN or data
abbrev pub value_demands : RowRules → ValueSource → List Demand
value_demands rules NoValue = []
value_demands rules (PvvOf pair index) = has_pair pair ∷ has_digits 1 index ∷ so (holds_pin rules) ∷ has_account rules.pin ∷ []
value_demands rules (OffsetOf pvk table validation check) =
    has_key pvk ∷ has_digits 16 table ∷ has_validation validation ∷ so (holds_pin rules) ∷ has_least check ∷ has_account rules.pin ∷ []
value_demands rules (CvvOf pair pan expiry service) = has_pair pair ∷ has_pan pan ∷ has_digits 4 expiry ∷ has_digits 3 service ∷ []
value_demands rules (MacOf f) = has_mac_texts f ∷ has_key f.key ∷ fits_algorithm f ∷ has_sound_data f ∷ []

-- the random words
abbrev pub word_demands : RowRules → Words → List Demand
word_demands rules NoWords = []
word_demands rules (TwoPerPart k) = []
word_demands rules (AsLength k) = has_length k ∷ []
word_demands rules (FillOf k) = so (holds_pin rules) ∷ []

-- a key whose neighbouring parts must differ, before the entry
abbrev pub parts_demands : RowRules → Option Secret → List Demand
parts_demands rules None = []
parts_demands rules (Some (Opened k)) = has_key k ∷ []
parts_demands rules (Some (OpenedUnder k kek)) = has_key_under k kek ∷ []
parts_demands rules (Some DrawnKey) = so false ∷ []
parts_demands rules (Some Joined) = has_components rules.components ∷ []

-- a key at the entry
abbrev pub secret_demands : RowRules → Secret → List Demand
secret_demands rules (Opened k) = has_key k ∷ []
secret_demands rules (OpenedUnder k kek) = has_key_under k kek ∷ []
secret_demands rules DrawnKey = so (draws_key rules.words) ∷ []
secret_demands rules Joined = has_components rules.components ∷ []

-- a PIN at the entry
abbrev pub entry_pin_demands : RowRules → List Demand
entry_pin_demands rules = so (pin_there rules.pin (pin_at_end false rules.checks)) ∷ []

-- a reply field
abbrev pub public_demands : RowRules → Public → List Demand
public_demands rules (Given k) = []
public_demands rules (Fixed text) = []
public_demands rules (Sealed s) = fits_scheme s ∷ secret_demands rules s
public_demands rules (SealedUnder s kek) = can_wrap s kek ∷ secret_demands rules s
public_demands rules (CheckValue s) = secret_demands rules s
public_demands rules SealedPin = so (pin_there rules.pin (pin_at_end false rules.checks)) ∷ has_account rules.pin ∷ []
public_demands rules (BlockUnder format key) = has_key key ∷ so (holds_pin rules) ∷ so (fills format rules.words) ∷ has_account rules.pin ∷ []
public_demands rules PinLength = entry_pin_demands rules
public_demands rules Value = []
public_demands rules Chain = []
public_demands rules LmkCheck = []
public_demands rules LiveGrants = []
public_demands rules Hosts = []
public_demands rules Done = []
public_demands rules Cancelled = []
public_demands rules Grants = []
public_demands rules Numbers = []
public_demands rules Notes = []
public_demands rules (ShowKey s) = secret_demands rules s
public_demands rules ShowPin = entry_pin_demands rules

-- the same of a row's term
abbrev pub term_demands : RowRules → Term → List Demand
term_demands rules (plain_text t) = []
term_demands rules (term t) = public_demands rules t

-- ---- what is held

-- the PIN that was given, if it was read
abbrev pub IsGiven : ReadMessage → Option (List ℕ) → Type 0
IsGiven q None = Unit {0}
IsGiven q (Some pin) = pin ≡ given_pin q

-- the PIN that the data checks leave
pub record IsLeft (q : ReadMessage) (pin : Option (List ℕ)) : Type 0 where
  pub given : IsGiven q pin
  pub there : is_some pin ≡ pin_at_end false q.rules.checks

-- the key that is drawn at the entry, if one is
abbrev pub key_drawn : ReadMessage → ℕ → Option (List (List ℕ))
key_drawn q place = if draws_key q.rules.words then Some (drawn_key q.«module» place (made_parts q)) else None

-- room for a reply field: a given text's own, else what any has
abbrev pub term_room : ReadText → Term → ℕ
term_room r (plain_text t) = length t
term_room r (term (Given k)) = length (field_text r k)
term_room r (term _) = 4000

-- room for all of them, each after one space
abbrev pub terms_room : ReadText → List Term → ℕ
terms_room r [] = 0
terms_room r (t ∷ ts) = 1 + term_room r t + terms_room r ts
