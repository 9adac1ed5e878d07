-- Each check finds one of its codes.
use Rattle.std.proofs.Common.{◌≡◌, ℕ, Bool, true, false, not, ◌==◌, ◌&&◌, ◌||◌, List, [], ◌∷◌, ◌++◌, Option, Some, None, map, length, flat_map, refl}
use Rattle.std.specs.Prelude.{nat_lt, is_some, if◌then◌else◌}
use Rattle.std.specs.List.{list_any}
use Rattle.std.specs.Str.{bytes_eq}
use Rattle.hsm_auth.specs.declared.entry.Granted.{Granted}
use Rattle.hsm_nibbles.specs.Characters.{digit_value}
use Rattle.hsm_pinblock.specs.Faults.{blockfault}
use Rattle.hsm_pinblock.specs.declared.BlockFault.{BlockFault}
use Rattle.hsm_pinblock.specs.declared.BlockFault.TheVariants.{Control, Length, Body}
use Rattle.hsm_rows.specs.declared.row.Secret.{Secret}
use Rattle.hsm_rows.specs.Reading.{ReadText, is_end}
use Rattle.hsm_rows.specs.Rules.{RowRules}
use Rattle.hsm_rows.specs.declared.rules.ActUse.{ActUse}
use Rattle.hsm_rows.specs.declared.rules.FixedNeed.{FixedNeed}
use Rattle.hsm_rows.specs.declared.rules.MacFields.{MacFields}
use Rattle.hsm_rows.specs.declared.rules.Under.{Under}
use Rattle.hsm_rows.specs.declared.rules.KeyCheck.{KeyCheck}
use Rattle.hsm_rows.specs.declared.rules.KeyCheck.TheVariants.{GivenKey, Target}
use Rattle.hsm_rows.specs.declared.rules.PinSource.{PinSource}
use Rattle.hsm_rows.specs.declared.rules.PinSource.TheVariants.{NoPin, BlockPin, LmkPin, ClearPin, DrawnPin}
use Rattle.hsm_rows.specs.declared.rules.DataCheck.{DataCheck}
use Rattle.hsm_rows.specs.declared.rules.DataCheck.TheVariants.{TableCheck, PinCheck, LongerThan, ShorterThan, MacCheck}
use Rattle.hsm_verify.specs.Values.{table_ok}
use Rattle.hsm_types.specs.Table.{allows_length}
use Rattle.hsm_types.specs.Schemes.{scheme_parts}
use Rattle.hsm_lmk.specs.Opened.{all_odd, opened}
use Rattle.hsm_pinblock.specs.declared.Format.TheVariants.{F01}
use Rattle.hsm_answers.specs.Read.{ReadMessage}
use Rattle.hsm_answers.specs.Keys.{KeyData, asked_key, field_text, first_code, given_fault, is_absent, key_data_fault, key_fault, key_of, keys_fault, length_fault, lengths_differ, scheme_at, scheme_fault, type_of, wrapping_key}
use Rattle.hsm_answers.specs.declared.keys.Asked.{Asked}
use Rattle.hsm_answers.specs.Pins.{block_fault_code, clear_digits, digits_at, format_at, given_pin, lmk_block, number_at, pin_fault, sent_block}
use Rattle.hsm_answers.specs.Macs.{ends_message, is_only, mac_data, mac_fault, mac_padding}
use Rattle.hsm_mac.specs.Macs.{fills_blocks, is_bare, is_length}
use Rattle.hsm_answers.specs.Values.{row_value, secret_key}
use Rattle.hsm_answers.specs.Checks.{late_fault, early_fault, check_read, checks_fault, compared_fault, data_fault, entry_fault, is_refused, is_used, is_forbidden, act_permit, is_loaded, parts_fault, permit_fault, set_fault}
use Rattle.hsm_tdes.specs.Tdes.{repeats_part}
use Rattle.hsm_rows.specs.Codes.{check_codes, data_codes, is_among, key_codes, pin_codes, where_any, where_some}
use Rattle.law_codes.proofs.Among.{behind, first, itself, left, opt_among, where_fails, where_holds}

parity_last : (code : ℕ) → is_among code (0 ∷ 15 ∷ 26 ∷ 27 ∷ code ∷ []) ≡ true
parity_last code = rw (itself code) (last (code == 0) (code == 15) (code == 26) (code == 27)) where
  last : (a b c d : Bool) → (a || (b || (c || (d || (true || false))))) ≡ true
  last true b c d = refl
  last false true c d = refl
  last false false true d = refl
  last false false false true = refl
  last false false false false = refl

opened_codes : (w : Option (List (List ℕ))) (under : Under) (a : Asked) (k : Option KeyData) → opt_among (key_data_fault w under a k) (0 ∷ 15 ∷ 26 ∷ 27 ∷ a.parity.0 ∷ []) ≡ true
unfolding key_data_fault
opened_codes None under a k = refl
opened_codes (Some w) under a None = refl
opened_codes (Some w) under a (Some k) =
    three (scheme_fault under a k.scheme) (length_fault a (scheme_parts k.scheme)) (all_odd (opened w k.scheme k.bytes)) a.parity.0
  where
    three : (x y z : Bool) (parity : ℕ) → opt_among (if x then Some 26 else if y then Some 27 else if z then None else Some parity) (0 ∷ 15 ∷ 26 ∷ 27 ∷ parity ∷ []) ≡ true
    three true y z parity = refl
    three false true z parity = refl
    three false false true parity = refl
    three false false false parity = parity_last parity

given_codes : (w : Option (List (List ℕ))) (under : Under) (a : Asked) (text : List ℕ) → opt_among (given_fault w under a text) (0 ∷ 15 ∷ 26 ∷ 27 ∷ a.parity.0 ∷ []) ≡ true
given_codes w under a text = present (a.wraps && is_end text) where
  present : (b : Bool) → opt_among (if b then None else key_data_fault w under a (key_of text)) (0 ∷ 15 ∷ 26 ∷ 27 ∷ a.parity.0 ∷ []) ≡ true
  present true = refl
  present false = opened_codes w under a (key_of text)

target_codes : (x y : Bool) → opt_among (if x then Some 26 else if y then Some 27 else None) (0 ∷ 15 ∷ 26 ∷ 27 ∷ []) ≡ true
target_codes true y = refl
target_codes false true = refl
target_codes false false = refl

key_has : (q : ReadMessage) (k : KeyCheck) → opt_among (key_fault q k) (0 ∷ 15 ∷ key_codes k) ≡ true
unfolding key_fault
key_has q (GivenKey k under ty wraps rule parity) = given_codes (wrapping_key q under (type_of q.read ty)) under (asked_key q.read ty wraps rule parity) (field_text q.read k)
key_has q (Target ty k second) = target_codes (lengths_differ q.read k second) (not (allows_length (type_of q.read ty) (scheme_parts (scheme_at q.read k))))

keys_have : (q : ReadMessage) (keys : List KeyCheck) → opt_among (first_code (map (key_fault q) keys)) (0 ∷ 15 ∷ flat_map key_codes keys) ≡ true
keys_have q [] = refl
keys_have q (k ∷ keys) =
    first (key_fault q k) (map (key_fault q) keys) (0 ∷ 15 ∷ (key_codes k ++ flat_map key_codes keys))
    (left (key_fault q k) (0 ∷ 15 ∷ key_codes k) (flat_map key_codes keys) (key_has q k))
    (behind (first_code (map (key_fault q) keys)) 0 15 (key_codes k) (flat_map key_codes keys) (keys_have q keys))

permit_has : (p : ActUse → Bool) (acts : List ActUse) → opt_among (if list_any p acts then Some 29 else None) (0 ∷ 15 ∷ where_any acts 29) ≡ true
permit_has p [] = refl
permit_has p (a ∷ acts) = where_holds (list_any p (a ∷ acts)) 29

parts_have : (q : ReadMessage) (s : Option Secret) → opt_among (parts_fault q s) (0 ∷ 15 ∷ where_some s 75) ≡ true
unfolding parts_fault
parts_have q None = refl
parts_have q (Some s) = where_holds (repeats_part (secret_key q 0 s)) 75

block_has : (fault : Option BlockFault) → opt_among (block_fault_code fault) (0 ∷ 15 ∷ 20 ∷ 24 ∷ []) ≡ true
block_has None = refl
block_has (Some Control) = refl
block_has (Some Length) = refl
block_has (Some Body) = refl

pin_has : (q : ReadMessage) (pin : PinSource) → opt_among (pin_fault q pin) (0 ∷ 15 ∷ pin_codes pin) ≡ true
unfolding pin_fault
pin_has q NoPin = refl
pin_has q (BlockPin block key format account) = block_has (blockfault (format_at q.read format) (sent_block q block key) (digits_at q.read account))
pin_has q (LmkPin text account) = where_holds (is_some (blockfault F01 (lmk_block q text) (digits_at q.read account))) 14
pin_has q (ClearPin text account) = where_holds (nat_lt (length (clear_digits q.read text)) 4) 24
pin_has q (DrawnPin len account) = refl

mac_has : (r : ReadText) (f : MacFields) → opt_among (mac_fault r f) (0 ∷ 15 ∷ 80 ∷ []) ≡ true
unfolding mac_fault
mac_has r f =
    three (is_end (mac_data r f)) ((not (ends_message r f) || is_bare (mac_padding r f)) && not (fills_blocks (mac_data r f))) (is_length (mac_padding r f) && not (is_only r f))
  where
    three : (x y z : Bool) → opt_among (if x then Some 80 else if y then Some 80 else if z then Some 80 else None) (0 ∷ 15 ∷ 80 ∷ []) ≡ true
    three true y z = refl
    three false true z = refl
    three false false true = refl
    three false false false = refl

check_has : (q : ReadMessage) (check : DataCheck) → opt_among (data_fault q check) (0 ∷ 15 ∷ data_codes q.rules.pin check) ≡ true
unfolding data_fault
check_has q (TableCheck k) = where_fails (table_ok (digits_at q.read k)) 25
check_has q PinCheck = pin_has q q.rules.pin
check_has q (LongerThan k) = where_holds (nat_lt (number_at q.read k) (length (given_pin q))) 24
check_has q (ShorterThan k) = where_holds (nat_lt (length (given_pin q)) (number_at q.read k)) 24
check_has q (MacCheck f) = mac_has q.read f

checks_have : (q : ReadMessage) (checks : List DataCheck) → opt_among (first_code (map (data_fault q) checks)) (0 ∷ 15 ∷ flat_map (data_codes q.rules.pin) checks) ≡ true
checks_have q [] = refl
checks_have q (k ∷ checks) =
    first (data_fault q k) (map (data_fault q) checks) (0 ∷ 15 ∷ (data_codes q.rules.pin k ++ flat_map (data_codes q.rules.pin) checks))
    (left (data_fault q k) (0 ∷ 15 ∷ data_codes q.rules.pin k) (flat_map (data_codes q.rules.pin) checks) (check_has q k))
    (behind (first_code (map (data_fault q) checks)) 0 15 (data_codes q.rules.pin k) (flat_map (data_codes q.rules.pin) checks) (checks_have q checks))

compared_has : (q : ReadMessage) (k : Option ℕ) → opt_among (compared_fault q k) (0 ∷ 15 ∷ where_some k 1) ≡ true
unfolding compared_fault
compared_has q None = refl
compared_has q (Some k) = where_fails (is_absent q.read k || bytes_eq (map digit_value (field_text q.read k)) (map digit_value (row_value q q.rules.value))) 1

-- a row that needs nothing is not refused at the entry
abbrev pub MayRefuse : RowRules → Granted → Type 0
MayRefuse rules g = rules.acts ≡ [] → rules.needs ≡ [] → is_refused g ≡ false

entry_has : (acts : List ActUse) (needs : List FixedNeed) (g : Granted) → (acts ≡ [] → needs ≡ [] → is_refused g ≡ false)
    → opt_among (entry_fault g) (0 ∷ 15 ∷ (where_any acts 17 ++ where_any needs 17)) ≡ true
entry_has [] [] g may = rw (may refl refl) refl
entry_has [] (need ∷ needs) g may = where_holds (is_refused g) 17
entry_has (a ∷ acts) needs g may = left (entry_fault g) (0 ∷ 15 ∷ 17 ∷ []) (where_any needs 17) (where_holds (is_refused g) 17)

-- the parts of `check_codes`, each with what follows it
in_keys : (o : Option ℕ) (k a p n d : List ℕ) → opt_among o (0 ∷ 15 ∷ k) ≡ true → opt_among o (0 ∷ 15 ∷ (k ++ (a ++ (p ++ (n ++ d))))) ≡ true
in_keys o k a p n d h = left o (0 ∷ 15 ∷ k) (a ++ (p ++ (n ++ d))) h

in_acts : (o : Option ℕ) (k a p n d : List ℕ) → opt_among o (0 ∷ 15 ∷ a) ≡ true → opt_among o (0 ∷ 15 ∷ (k ++ (a ++ (p ++ (n ++ d))))) ≡ true
in_acts o k a p n d h = behind o 0 15 k (a ++ (p ++ (n ++ d))) (left o (0 ∷ 15 ∷ a) (p ++ (n ++ d)) h)

in_parts : (o : Option ℕ) (k a p n d : List ℕ) → opt_among o (0 ∷ 15 ∷ p) ≡ true → opt_among o (0 ∷ 15 ∷ (k ++ (a ++ (p ++ (n ++ d))))) ≡ true
in_parts o k a p n d h = behind o 0 15 k (a ++ (p ++ (n ++ d))) (behind o 0 15 a (p ++ (n ++ d)) (left o (0 ∷ 15 ∷ p) (n ++ d) h))

in_needs : (o : Option ℕ) (k a p n d : List ℕ) → opt_among o (0 ∷ 15 ∷ n) ≡ true → opt_among o (0 ∷ 15 ∷ (k ++ (a ++ (p ++ (n ++ d))))) ≡ true
in_needs o k a p n d h = behind o 0 15 k (a ++ (p ++ (n ++ d))) (behind o 0 15 a (p ++ (n ++ d)) (behind o 0 15 p (n ++ d) (left o (0 ∷ 15 ∷ n) d h)))

in_data : (o : Option ℕ) (k a p n d : List ℕ) → opt_among o (0 ∷ 15 ∷ d) ≡ true → opt_among o (0 ∷ 15 ∷ (k ++ (a ++ (p ++ (n ++ d))))) ≡ true
in_data o k a p n d h = behind o 0 15 k (a ++ (p ++ (n ++ d))) (behind o 0 15 a (p ++ (n ++ d)) (behind o 0 15 p (n ++ d) (behind o 0 15 n d h)))

pub before_has : (q : ReadMessage) → opt_among (early_fault q) (0 ∷ 15 ∷ check_codes q.rules) ≡ true
unfolding early_fault keys_fault permit_fault
before_has q =
    let k = 13 ∷ flat_map key_codes q.rules.keys in
    let a = where_any q.rules.acts 29 in
    let p = where_some q.rules.parts_differ 75 in
    let n = where_any q.rules.acts 17 ++ where_any q.rules.needs 17 in
    let d = flat_map (data_codes q.rules.pin) q.rules.checks ++ where_some q.rules.compared 1 in
    let all = 0 ∷ 15 ∷ check_codes q.rules in
    first (set_fault q) (keys_fault q q.rules.keys ∷ permit_fault q ∷ parts_fault q q.rules.parts_differ ∷ []) all
    (in_keys (set_fault q) k a p n d (left (set_fault q) (0 ∷ 15 ∷ 13 ∷ []) (flat_map key_codes q.rules.keys) (where_fails (is_loaded q) 13)))
    (first (keys_fault q q.rules.keys) (permit_fault q ∷ parts_fault q q.rules.parts_differ ∷ []) all
    (in_keys (keys_fault q q.rules.keys) k a p n d (behind (keys_fault q q.rules.keys) 0 15 (13 ∷ []) (flat_map key_codes q.rules.keys) (keys_have q q.rules.keys)))
    (first (permit_fault q) (parts_fault q q.rules.parts_differ ∷ []) all
    (in_acts (permit_fault q) k a p n d (permit_has (λ (u : ActUse). is_used q.read u.where_present && is_forbidden (act_permit q u)) q.rules.acts))
    (first (parts_fault q q.rules.parts_differ) [] all (in_parts (parts_fault q q.rules.parts_differ) k a p n d (parts_have q q.rules.parts_differ)) refl)))

after_has : (q : ReadMessage) → opt_among (late_fault q) (0 ∷ 15 ∷ check_codes q.rules) ≡ true
unfolding late_fault checks_fault
after_has q =
    let k = 13 ∷ flat_map key_codes q.rules.keys in
    let a = where_any q.rules.acts 29 in
    let p = where_some q.rules.parts_differ 75 in
    let n = where_any q.rules.acts 17 ++ where_any q.rules.needs 17 in
    let d = flat_map (data_codes q.rules.pin) q.rules.checks in
    let c = where_some q.rules.compared 1 in
    let all = 0 ∷ 15 ∷ check_codes q.rules in
    first (checks_fault q) (compared_fault q q.rules.compared ∷ []) all
    (in_data (checks_fault q) k a p n (d ++ c) (left (checks_fault q) (0 ∷ 15 ∷ d) c (checks_have q q.rules.checks)))
    (first (compared_fault q q.rules.compared) [] all
    (in_data (compared_fault q q.rules.compared) k a p n (d ++ c) (behind (compared_fault q q.rules.compared) 0 15 d c (compared_has q q.rules.compared))) refl)

-- the first check that fails has one of the codes of the row's checks
pub read_has : (q : ReadMessage) (g : Granted) → (early_fault q ≡ None → MayRefuse q.rules g)
    → opt_among (check_read q g) (0 ∷ 15 ∷ check_codes q.rules) ≡ true
unfolding check_read
read_has q g may = go (early_fault q) (before_has q) may where
  go : (o : Option ℕ) → opt_among o (0 ∷ 15 ∷ check_codes q.rules) ≡ true → (o ≡ None → MayRefuse q.rules g)
      → opt_among (first_code (o ∷ entry_fault g ∷ late_fault q ∷ [])) (0 ∷ 15 ∷ check_codes q.rules) ≡ true
  go (Some code) here may = here
  go None here may =
      let k = 13 ∷ flat_map key_codes q.rules.keys in
      let a = where_any q.rules.acts 29 in
      let p = where_some q.rules.parts_differ 75 in
      let n = where_any q.rules.acts 17 ++ where_any q.rules.needs 17 in
      let d = flat_map (data_codes q.rules.pin) q.rules.checks ++ where_some q.rules.compared 1 in
      let all = 0 ∷ 15 ∷ check_codes q.rules in
      first (entry_fault g) (late_fault q ∷ []) all (in_needs (entry_fault g) k a p n d (entry_has q.rules.acts q.rules.needs g (may refl)))
      (first (late_fault q) [] all (after_has q) refl)
