-- What each row of the command table asks of its fields beyond their forms, and what its reply is made of. A number names a field of the row, counted from 0, or where it says so a two-digit code.
use Rattle.std.specs.Prelude.{ℕ, true, false, List, [], ◌∷◌, Option, Some, None}
use Rattle.hsm_types.specs.declared.types.KeyType.{KeyType}
use Rattle.hsm_types.specs.declared.types.KeyType.TheVariants.{Zmk, Zpk, Tpk, Cvk}
use Rattle.hsm_types.specs.declared.types.Act.{Act}
use Rattle.hsm_types.specs.declared.types.Act.TheVariants.{Generate, Import, Export}
use Rattle.hsm_auth.specs.declared.activity.Category.TheVariants.{Component, PinClear}
use Rattle.hsm_auth.specs.declared.activity.Place.TheVariants.{Host, Console}
use Rattle.hsm_rows.specs.declared.row.Code.{Code}
use Rattle.hsm_rows.specs.declared.row.Secret.{Secret}
use Rattle.hsm_rows.specs.declared.row.Secret.TheVariants.{Opened, OpenedUnder, Joined}
use Rattle.hsm_rows.specs.declared.rules.TypeSource.{TypeSource}
use Rattle.hsm_rows.specs.declared.rules.TypeSource.TheVariants.{Fixed, Named, ByPair, WrapperType}
use Rattle.hsm_rows.specs.declared.rules.LengthRule.TheVariants.{AnyLength, AsScheme, FlagPlusOne, TwoForAlgorithmThree}
use Rattle.hsm_rows.specs.declared.rules.Under.TheVariants.{Lmk, KeyAt}
use Rattle.hsm_rows.specs.declared.rules.KeyCheck.{KeyCheck}
use Rattle.hsm_rows.specs.declared.rules.KeyCheck.TheVariants.{GivenKey, Target}
use Rattle.hsm_rows.specs.declared.rules.ActUse.{ActUse}
use Rattle.hsm_rows.specs.declared.rules.FixedNeed.{FixedNeed}
use Rattle.hsm_rows.specs.declared.rules.Words.{Words}
use Rattle.hsm_rows.specs.declared.rules.Words.TheVariants.{NoWords, TwoPerPart, AsLength, FillOf}
use Rattle.hsm_rows.specs.declared.rules.PinSource.{PinSource}
use Rattle.hsm_rows.specs.declared.rules.PinSource.TheVariants.{NoPin, BlockPin, LmkPin, ClearPin, DrawnPin}
use Rattle.hsm_rows.specs.declared.rules.MacFields.{MacFields}
use Rattle.hsm_rows.specs.declared.rules.ValueSource.{ValueSource}
use Rattle.hsm_rows.specs.declared.rules.ValueSource.TheVariants.{NoValue, PvvOf, OffsetOf, CvvOf, MacOf}
use Rattle.hsm_rows.specs.declared.rules.DataCheck.{DataCheck}
use Rattle.hsm_rows.specs.declared.rules.DataCheck.TheVariants.{TableCheck, PinCheck, LongerThan, ShorterThan, MacCheck}
use Rattle.hsm_rows.specs.declared.rules.AskKind.{AskKind}
use Rattle.hsm_rows.specs.declared.rules.AskKind.TheVariants.{UseAsk, LookAsk, RecentAsk, CancelAllAsk, AuthoriseAsk, CancelAsk}
use Rattle.hsm_rows.specs.declared.rules.Made.{Made}
use Rattle.hsm_rows.specs.declared.rules.Rules.{Rules}
use Rattle.hsm_rows.specs.declared.rules.RuleSet.{RuleSet}
use Rattle.hsm_rows.specs.declared.rules.RuleSet.TheVariants as set

-- what a row asks beyond its forms, with its lists as lists
pub record RowRules : Type 0 where
  pub keys : List KeyCheck
  -- the acts whose permits it uses
  pub acts : List ActUse
  -- the key whose neighbouring parts must differ
  pub parts_differ : Option Secret
  pub needs : List FixedNeed
  pub words : Words
  pub made : Made
  -- the components of the key that it makes
  pub components : List ℕ
  pub pin : PinSource
  pub value : ValueSource
  pub checks : List DataCheck
  -- the field whose text must be the row's value
  pub compared : Option ℕ
  pub ask : AskKind
  -- the reply fields that show a clear key or PIN
  pub clear : List ℕ

-- the rules of a row of the table
abbrev pub rules_shape : Rules → RowRules
rules_shape x = record {
  keys = x.keys.now;
  acts = x.acts.now;
  parts_differ = x.parts_differ;
  needs = x.needs.now;
  words = x.words;
  made = x.made;
  components = x.components.now;
  pin = x.pin;
  value = x.value;
  checks = x.checks.now;
  compared = x.compared;
  ask = x.ask;
  clear = x.clear.now;
}

-- the code of a number
abbrev coded : ℕ → Code
coded n = record { 0 = n }

-- a key of the type to be made, in the scheme of this field
abbrev pub makes : TypeSource → ℕ → Made
makes ty scheme = record { ty = ty; scheme = scheme; wrap_scheme = 0 }

-- a row that checks these keys, and no more
abbrev pub checks_keys : List KeyCheck → RowRules
checks_keys ks = record { keys = ks; acts = []; parts_differ = None; needs = []; words = NoWords; made = makes (Fixed Zmk) 0; components = []; pin = NoPin; value = NoValue; checks = []; compared = None; ask = UseAsk; clear = [] }

-- a row that asks nothing beyond its forms
abbrev pub plain : RowRules
plain = checks_keys []

-- the same with another ask
abbrev pub asks : AskKind → RowRules
asks kind = record plain { ask = kind }

-- a key under the LMK with its parity code
abbrev pub key_of_type : ℕ → KeyType → ℕ → KeyCheck
key_of_type k ty parity = GivenKey k Lmk (Fixed ty) false AnyLength (coded parity)

-- an act that the row always uses
abbrev pub uses : Act → TypeSource → ActUse
uses act ty = record { act = act; ty = ty; where_present = None }

-- an act that the row uses where the field is present
abbrev pub uses_where : ℕ → Act → TypeSource → ActUse
uses_where k act ty = record { act = act; ty = ty; where_present = Some k }

-- clear PINs at a host
abbrev pub pin_clear_at_host : FixedNeed
pin_clear_at_host = record { category = PinClear; ty = None; place = Host }

-- components of the type at the console
abbrev pub component_at_console : TypeSource → FixedNeed
component_at_console ty = record { category = Component; ty = Some ty; place = Console }

-- a row that only looks at the ledger
abbrev pub looks : RowRules
looks = asks LookAsk

-- The rules of a row over its fields, which are named in their order; then the row, with their numbers.

-- A0: mode, type, scheme, [;f], wrapping key, scheme under it
abbrev draws : (ty scheme wrapper kek kek_scheme : ℕ) → RowRules
draws ty scheme wrapper kek kek_scheme = record (checks_keys (Target (Named ty) scheme (Some kek_scheme) ∷ GivenKey kek Lmk (WrapperType wrapper) true AnyLength (coded 10) ∷ [])) {
  acts = uses Generate (Named ty) ∷ uses_where kek_scheme Export (Named ty) ∷ [];
  words = TwoPerPart scheme;
  made = record (makes (Named ty) scheme) { wrap_scheme = kek_scheme };
}

abbrev pub rules_A0 : RowRules
rules_A0 = draws 1 2 3 4 5

-- A6: type, ZMK, key under the ZMK, scheme
abbrev imports : (ty zmk wrapped scheme : ℕ) → RowRules
imports ty zmk wrapped scheme =
    record (checks_keys (GivenKey zmk Lmk (Fixed Zmk) true AnyLength (coded 10) ∷ GivenKey wrapped (KeyAt zmk) (Named ty) false (AsScheme scheme) (coded 11) ∷ [])) {
      acts = uses Import (Named ty) ∷ [];
      parts_differ = Some (OpenedUnder wrapped zmk);
      made = makes (Named ty) scheme;
    }

abbrev pub rules_A6 : RowRules
rules_A6 = imports 0 1 2 3

-- A8: type, [;f], wrapping key, key, scheme under the wrapping key
abbrev exports : (ty wrapper kek exported kek_scheme : ℕ) → RowRules
exports ty wrapper kek exported kek_scheme =
    record (checks_keys (GivenKey kek Lmk (WrapperType wrapper) true AnyLength (coded 10) ∷ GivenKey exported Lmk (Named ty) false (AsScheme kek_scheme) (coded 11) ∷ [])) {
      acts = uses Export (Named ty) ∷ [];
      parts_differ = Some (Opened exported);
      made = record (makes (Named ty) 0) { wrap_scheme = kek_scheme };
    }

abbrev pub rules_A8 : RowRules
rules_A8 = exports 0 1 2 3 4

-- BU: pair code, flag, key, `;`, type
abbrev shows_check_value : (pair_code flag checked semicolon ty : ℕ) → RowRules
shows_check_value pair_code flag checked semicolon ty = checks_keys (GivenKey checked Lmk (ByPair pair_code ty) false (FlagPlusOne flag) (coded 10) ∷ [])

abbrev pub rules_BU : RowRules
rules_BU = shows_check_value 0 1 2 3 4

-- CA and CC: key, ZPK, greatest length, block, format, second format, account; the first key is of this type
abbrev translates : KeyType → (first zpk longest block format second_format account : ℕ) → RowRules
translates ty first zpk longest block format second_format account = record (checks_keys (key_of_type first ty 10 ∷ key_of_type zpk Zpk 11 ∷ [])) {
  words = FillOf second_format;
  pin = BlockPin block first format account;
  checks = PinCheck ∷ LongerThan longest ∷ [];
}

-- CA: the first key is a TPK
abbrev pub rules_CA : RowRules
rules_CA = translates Tpk 0 1 2 3 4 5 6

-- CC: the first key is a ZPK
abbrev pub rules_CC : RowRules
rules_CC = translates Zpk 0 1 2 3 4 5 6

-- DE: PVK, PIN, check length, account, table, validation data
abbrev makes_offset : (pvk sealed least account table validation : ℕ) → RowRules
makes_offset pvk sealed least account table validation = record (checks_keys (key_of_type pvk Tpk 10 ∷ [])) {
  pin = LmkPin sealed account;
  value = OffsetOf pvk table validation least;
  checks = TableCheck table ∷ PinCheck ∷ ShorterThan least ∷ [];
}

abbrev pub rules_DE : RowRules
rules_DE = makes_offset 0 1 2 3 4 5

-- DG: PVK pair, PIN, account, index
abbrev makes_pvv : (pair sealed account index : ℕ) → RowRules
makes_pvv pair sealed account index = record (checks_keys (key_of_type pair Tpk 10 ∷ [])) {
  pin = LmkPin sealed account;
  value = PvvOf pair index;
  checks = PinCheck ∷ [];
}

abbrev pub rules_DG : RowRules
rules_DG = makes_pvv 0 1 2 3

-- DA and EA: key, PVK, greatest length, block, format, check length, account, table, validation data, offset; the first key is of this type
abbrev verifies_offset : KeyType → (first pvk longest block format least account table validation offset : ℕ) → RowRules
verifies_offset ty first pvk longest block format least account table validation offset = record (checks_keys (key_of_type first ty 10 ∷ key_of_type pvk Tpk 11 ∷ [])) {
  pin = BlockPin block first format account;
  value = OffsetOf pvk table validation least;
  checks = TableCheck table ∷ PinCheck ∷ LongerThan longest ∷ ShorterThan least ∷ [];
  compared = Some offset;
}

-- DA: the first key is a TPK
abbrev pub rules_DA : RowRules
rules_DA = verifies_offset Tpk 0 1 2 3 4 5 6 7 8 9

-- EA: the first key is a ZPK
abbrev pub rules_EA : RowRules
rules_EA = verifies_offset Zpk 0 1 2 3 4 5 6 7 8 9

-- DC and EC: key, PVK pair, block, format, account, index, PVV; the first key is of this type
abbrev verifies_pvv : KeyType → (first pair block format account index pvv : ℕ) → RowRules
verifies_pvv ty first pair block format account index pvv = record (checks_keys (key_of_type first ty 10 ∷ key_of_type pair Tpk 11 ∷ [])) {
  pin = BlockPin block first format account;
  value = PvvOf pair index;
  checks = PinCheck ∷ [];
  compared = Some pvv;
}

-- DC: the first key is a TPK
abbrev pub rules_DC : RowRules
rules_DC = verifies_pvv Tpk 0 1 2 3 4 5 6

-- EC: the first key is a ZPK
abbrev pub rules_EC : RowRules
rules_EC = verifies_pvv Zpk 0 1 2 3 4 5 6

-- BA: clear PIN, account
abbrev seals_pin : (digits account : ℕ) → RowRules
seals_pin digits account = record plain { needs = pin_clear_at_host ∷ []; pin = ClearPin digits account; checks = PinCheck ∷ [] }

abbrev pub rules_BA : RowRules
rules_BA = seals_pin 0 1

-- NG: account, PIN; its first reply field is clear
abbrev shows_pin : (account sealed : ℕ) → RowRules
shows_pin account sealed = record plain { needs = pin_clear_at_host ∷ []; pin = LmkPin sealed account; checks = PinCheck ∷ []; clear = 0 ∷ [] }

abbrev pub rules_NG : RowRules
rules_NG = shows_pin 0 1

-- JA: account, length
abbrev draws_pin : (account digits : ℕ) → RowRules
draws_pin account digits = record plain { words = AsLength digits; pin = DrawnPin digits account }

abbrev pub rules_JA : RowRules
rules_JA = draws_pin 0 1

-- a row that makes or compares a CVV
abbrev card_value : (pair pan expiry service : ℕ) → RowRules
card_value pair pan expiry service = record (checks_keys (key_of_type pair Cvk 10 ∷ [])) { value = CvvOf pair pan expiry service }

-- CW: CVK pair, account number, expiry, service code
abbrev pub rules_CW : RowRules
rules_CW = card_value 0 1 2 3

-- CY: CVK pair, CVV, account number, expiry, service code
abbrev verifies_cvv : (pair cvv pan expiry service : ℕ) → RowRules
verifies_cvv pair cvv pan expiry service = record (card_value pair pan expiry service) { compared = Some cvv }

abbrev pub rules_CY : RowRules
rules_CY = verifies_cvv 0 1 2 3 4

-- M6 and M8: mode, input, size, algorithm, padding, type, key, chaining value, count, data
abbrev mac_fields : MacFields
mac_fields = record { mode = 0; input = 1; size = 2; algorithm = 3; padding = 4; key = 6; chain = 7; message = 9 }

-- a row that makes or compares a MAC; the type of its key is in this field
abbrev authenticates : ℕ → MacFields → RowRules
authenticates ty f = record (checks_keys (GivenKey f.key Lmk (Named ty) false (TwoForAlgorithmThree f.algorithm) (coded 10) ∷ [])) {
  value = MacOf f;
  checks = MacCheck f ∷ [];
}

-- M6 writes it
abbrev pub rules_M6 : RowRules
rules_M6 = authenticates 5 mac_fields

-- M8 compares it with the MAC after the data
abbrev verifies_mac : (ty mac : ℕ) → RowRules
verifies_mac ty mac = record (authenticates ty mac_fields) { compared = Some mac }

abbrev pub rules_M8 : RowRules
rules_M8 = verifies_mac 5 10

-- GC: type, scheme; its first reply field is clear
abbrev draws_component : (ty scheme : ℕ) → RowRules
draws_component ty scheme = record (checks_keys (Target (Named ty) scheme None ∷ [])) {
  needs = component_at_console (Named ty) ∷ [];
  words = TwoPerPart scheme;
  made = makes (Named ty) scheme;
  clear = 0 ∷ [];
}

abbrev pub rules_GC : RowRules
rules_GC = draws_component 0 1

-- FK: type, scheme, two or three components
abbrev joins : (ty scheme first second third : ℕ) → RowRules
joins ty scheme first second third = record (checks_keys (Target (Named ty) scheme None ∷ [])) {
  parts_differ = Some Joined;
  needs = component_at_console (Named ty) ∷ [];
  made = makes (Named ty) scheme;
  components = first ∷ second ∷ third ∷ [];
}

abbrev pub rules_FK : RowRules
rules_FK = joins 0 1 2 3 4

-- RA: no fields
abbrev pub rules_RA : RowRules
rules_RA = asks CancelAllAsk

-- A: activity, minutes, the two officers' words
abbrev pub rules_A : RowRules
rules_A = asks AuthoriseAsk

-- C: activity or star
abbrev pub rules_C : RowRules
rules_C = asks CancelAsk

-- LOG: no fields
abbrev pub rules_LOG : RowRules
rules_LOG = asks RecentAsk

-- the rules of a name
abbrev pub rules_in : RuleSet → RowRules
rules_in set.Plain = plain
rules_in set.Looks = looks
rules_in set.A0 = rules_A0
rules_in set.A6 = rules_A6
rules_in set.A8 = rules_A8
rules_in set.Bu = rules_BU
rules_in set.Ca = rules_CA
rules_in set.Cc = rules_CC
rules_in set.De = rules_DE
rules_in set.Dg = rules_DG
rules_in set.Da = rules_DA
rules_in set.Ea = rules_EA
rules_in set.Dc = rules_DC
rules_in set.Ec = rules_EC
rules_in set.Ba = rules_BA
rules_in set.Ng = rules_NG
rules_in set.Ja = rules_JA
rules_in set.Cw = rules_CW
rules_in set.Cy = rules_CY
rules_in set.M6 = rules_M6
rules_in set.M8 = rules_M8
rules_in set.Ra = rules_RA
rules_in set.A = rules_A
rules_in set.C = rules_C
rules_in set.Log = rules_LOG
rules_in set.Gc = rules_GC
rules_in set.Fk = rules_FK
