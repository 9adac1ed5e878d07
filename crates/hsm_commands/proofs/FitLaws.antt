-- A row whose rules fit its forms can be followed.
use Rattle.std.proofs.Common.{◌≡◌, ℕ, ◌≤◌, Bool, true, false, ◌||◌, List, [], ◌∷◌, length, map, Option, Some, None, refl, sym, ap, ◌∙◌, subst, arith, inl, inr}
use Rattle.std.specs.Prelude.{◌==◌, ◌⊎◌, if◌then◌else◌, nat_le, nat_lt, codes}
use Rattle.std.specs.Str.{bytes_eq}
use Rattle.std.proofs.lemmas.Bool.{and_parts}
use Rattle.std.proofs.lemmas.Bool.Decides.{nat_tests}
use Rattle.hsm_types.specs.Schemes.{scheme_parts}
use Rattle.hsm_rows.specs.declared.row.Field.{Field}
use Rattle.hsm_rows.specs.declared.row.Secret.{Secret}
use Rattle.hsm_rows.specs.declared.row.Secret.TheVariants as secret
use Rattle.hsm_rows.specs.declared.rules.DataCheck.{DataCheck}
use Rattle.hsm_rows.specs.declared.rules.DataCheck.TheVariants.{TableCheck, PinCheck, LongerThan, ShorterThan, MacCheck}
use Rattle.hsm_rows.specs.Rules.{RowRules}
use Rattle.hsm_rows.specs.Table.{RowShape, Term, rules_of}
use Rattle.hsm_rows.specs.Reading.{is_end}
use Rattle.hsm_rows.specs.Standing.{AreDigits, AreHexDigits, IsLength, IsValidation, IsAccount}
use Rattle.hsm_answers.specs.Read.{ReadMessage, read_by}
use Rattle.hsm_answers.specs.Keys.{field_text, is_absent, scheme_at, lmk_key, first_code}
use Rattle.hsm_answers.specs.Pins.{given_pin, number_at}
use Rattle.hsm_answers.specs.Values.{made_parts}
use Rattle.hsm_rows.specs.declared.rules.MacFields.{MacFields}
use Rattle.hsm_rows.specs.declared.rules.AskKind.{AskKind}
use Rattle.hsm_rows.specs.declared.rules.AskKind.TheVariants.{UseAsk, LookAsk, RecentAsk, CancelAllAsk, AuthoriseAsk, CancelAsk}
use Rattle.hsm_answers.specs.Macs.{mac_fault}
use Rattle.hsm_answers.specs.Checks.{data_fault, checks_fault}
use Rattle.hsm_commands.specs.declared.keys.OpenedKeys.{OpenedKeys}
use Rattle.hsm_commands.specs.Opened.{KeysHold}
use Rattle.hsm_commands.specs.Demands.{Demand, so, has_digits, has_hex16, has_length, has_clear_pin, has_validation, has_pan, has_account, account_field, have_pin, IsTwelveDigits, has_mac_texts, has_key, has_pair, has_key_under, fits_algorithm, has_sound_data, has_least, fits_scheme, can_wrap, has_components, secret_parts, CanWrap, Met, AllMet, EachMet, parts_demands, pin_demands, check_demands, value_demands, word_demands, term_demands}
use Rattle.hsm_commands.specs.Plans.{AreRead, AskStands, RowStands, IsFollowed}
use Rattle.hsm_commands.specs.Fit.{form_at, is_digits, is_hex16, is_length, is_clear_pin, is_pair, is_validation, is_account, has_twelve, is_minutes_form, keys_fit, ask_fits, meets, meets_all, meets_each, wraps_in, is_shorter, has_shorter, is_mac, has_mac, sealed_fits, wrapped_fits, all_fit, all_true, rules_fit}
use Rattle.hsm_commands.proofs.FormLaws.{text_is, digits_mean, hex16_means, length_means, clear_means, pair_means, validation_means, account_means, minutes_mean, AreMinutes, IsTwelve, HasTwoParts}
use Rattle.hsm_commands.proofs.MacFit.{mac_stands, mac_same, takes_by}
use Rattle.hsm_commands.proofs.ComponentLaws.{components_there}
use Rattle.hsm_commands.proofs.RoomLaws.{room_is}
use Rattle.hsm_commands.proofs.HeldKeys.{key_held, key_taken, key_under, key_sized, under_sized, wrapping_held, targets_same, keys_stand, or_cases, same_number}

at_most : (a b : ℕ) → nat_le a b ≡ true → a ≤ b
at_most a b h = grind (arith, nat_tests)

equal_to : (a b : ℕ) → (a == b) ≡ true → a ≡ b
equal_to a b h = grind (arith, nat_tests)

not_less_by : (a b : ℕ) (x : Bool) → nat_lt a b ≡ x → if◌then◌else◌ {A = Option ℕ} x (Some 24) None ≡ None → b ≤ a
not_less_by a b true e k = let z : ⊥ = cc in absurd z
not_less_by a b false e k = grind (arith, nat_tests)

not_less : (a b : ℕ) → if◌then◌else◌ {A = Option ℕ} (nat_lt a b) (Some 24) None ≡ None → b ≤ a
not_less a b h = not_less_by a b (nat_lt a b) refl h

both_false : (a b : Bool) → (a || b) ≡ false → (a ≡ false) × (b ≡ false)
both_false true b h = let z : ⊥ = cc in absurd z
both_false false b h = (refl, h)

first_of_codes : (x : Option ℕ) (xs : List (Option ℕ)) → first_code (x ∷ xs) ≡ None → (x ≡ None) × (first_code xs ≡ None)
first_of_codes None xs h = (refl, h)
first_of_codes (Some code) xs h = let z : ⊥ = cc in absurd z

module _ (q : ReadMessage) (fs : List Field) (texts : AreRead fs q.read.texts) where
  digits_there : (n k : ℕ) → form_at (is_digits n) fs k ≡ true → AreDigits n (field_text q.read k)
  digits_there n k h = text_is (is_digits n) (AreDigits n) (digits_mean n) fs q.read.texts k texts h

  account_there : (k : Option ℕ) → has_twelve fs k ≡ true → IsTwelveDigits q.read k
  account_there None h = let z : ⊥ = cc in absurd z
  account_there (Some k) h = digits_there 12 k h

  shorter_by : (k : ℕ) (c : DataCheck) → data_fault q c ≡ None → is_shorter k c ≡ true → number_at q.read k ≤ length (given_pin q)
  unfolding data_fault
  shorter_by k (ShorterThan j) e h =
      let same : j ≡ k = sym (same_number k j h) in
      let P : ℕ → Type 0 = λ i. number_at q.read i ≤ length (given_pin q) in
      subst P same (not_less (length (given_pin q)) (number_at q.read j) e)
  shorter_by k (LongerThan j) e h = let z : ⊥ = cc in absurd z
  shorter_by k (TableCheck j) e h = let z : ⊥ = cc in absurd z
  shorter_by k PinCheck e h = let z : ⊥ = cc in absurd z
  shorter_by k (MacCheck f) e h = let z : ⊥ = cc in absurd z

  shorter_of : (k : ℕ) (c : DataCheck) (cs : List DataCheck) → (is_shorter k c ≡ true) ⊎ (has_shorter k cs ≡ true) → data_fault q c ≡ None
      → (has_shorter k cs ≡ true → number_at q.read k ≤ length (given_pin q)) → number_at q.read k ≤ length (given_pin q)
  shorter_of k c cs (inl s) a more = shorter_by k c a s
  shorter_of k c cs (inr s) a more = more s

  shorter_in : (k : ℕ) (cs : List DataCheck) → first_code (map (data_fault q) cs) ≡ None → has_shorter k cs ≡ true → number_at q.read k ≤ length (given_pin q)
  shorter_in k [] e h = let z : ⊥ = cc in absurd z
  shorter_in k (c ∷ cs) e h =
      let p = first_of_codes (data_fault q c) (map (data_fault q) cs) e in
      shorter_of k c cs (or_cases (is_shorter k c) (has_shorter k cs) h) p.0 (λ s. shorter_in k cs p.1 s)

  least_given : (k : ℕ) → checks_fault q ≡ None → has_shorter k q.rules.checks ≡ true → number_at q.read k ≤ length (given_pin q)
  unfolding checks_fault
  least_given k e h = shorter_in k q.rules.checks e h

  mac_by : (f : MacFields) (c : DataCheck) → data_fault q c ≡ None → is_mac f c ≡ true → mac_fault q.read f ≡ None
  unfolding data_fault
  mac_by f (MacCheck g) e h = ap (mac_fault q.read) (sym (mac_same g f h)) ∙ e
  mac_by f (LongerThan j) e h = let z : ⊥ = cc in absurd z
  mac_by f (ShorterThan j) e h = let z : ⊥ = cc in absurd z
  mac_by f (TableCheck j) e h = let z : ⊥ = cc in absurd z
  mac_by f PinCheck e h = let z : ⊥ = cc in absurd z

  mac_one : (f : MacFields) (c : DataCheck) (cs : List DataCheck) → (is_mac f c ≡ true) ⊎ (has_mac f cs ≡ true) → data_fault q c ≡ None
      → (has_mac f cs ≡ true → mac_fault q.read f ≡ None) → mac_fault q.read f ≡ None
  mac_one f c cs (inl s) a more = mac_by f c a s
  mac_one f c cs (inr s) a more = more s

  mac_in : (f : MacFields) (cs : List DataCheck) → first_code (map (data_fault q) cs) ≡ None → has_mac f cs ≡ true → mac_fault q.read f ≡ None
  mac_in f [] e h = let z : ⊥ = cc in absurd z
  mac_in f (c ∷ cs) e h =
      let p = first_of_codes (data_fault q c) (map (data_fault q) cs) e in
      mac_one f c cs (or_cases (is_mac f c) (has_mac f cs) h) p.0 (λ s. mac_in f cs p.1 s)

  data_sound : (f : MacFields) → checks_fault q ≡ None → has_mac f q.rules.checks ≡ true → mac_fault q.read f ≡ None
  unfolding checks_fault
  data_sound f e h = mac_in f q.rules.checks e h

  sealed_parts : (keys : OpenedKeys) → KeysHold q q.rules.keys keys → (s : Secret) → sealed_fits q.rules s ≡ true → secret_parts q s ≡ made_parts q
  sealed_parts keys hold (secret.Opened k) h = key_sized q q.rules.keys keys k q.rules.made.scheme hold h
  sealed_parts keys hold (secret.OpenedUnder k kek) h = under_sized q q.rules.keys keys k kek q.rules.made.scheme hold h
  sealed_parts keys hold secret.DrawnKey h = refl
  sealed_parts keys hold secret.Joined h = refl

  wrapped_parts : (keys : OpenedKeys) → KeysHold q q.rules.keys keys → (s : Secret) → wrapped_fits q.rules s ≡ true → is_absent q.read q.rules.made.wrap_scheme ≡ false
      → secret_parts q s ≡ scheme_parts (scheme_at q.read q.rules.made.wrap_scheme)
  wrapped_parts keys hold (secret.Opened k) h present = key_sized q q.rules.keys keys k q.rules.made.wrap_scheme hold h
  wrapped_parts keys hold secret.DrawnKey h present = targets_same q q.rules.keys keys q.rules.made.scheme q.rules.made.wrap_scheme hold h present
  wrapped_parts keys hold (secret.OpenedUnder k kek) h present = let z : ⊥ = cc in absurd z
  wrapped_parts keys hold secret.Joined h present = let z : ⊥ = cc in absurd z

  wraps_there : (keys : OpenedKeys) → KeysHold q q.rules.keys keys → (s : Secret) (kek : ℕ) → wraps_in kek q.rules.keys ≡ true → wrapped_fits q.rules s ≡ true
      → (is_absent q.read kek || is_absent q.read q.rules.made.wrap_scheme) ≡ false → CanWrap q keys s kek
  wraps_there keys hold s kek w f there =
      let p = both_false (is_absent q.read kek) (is_absent q.read q.rules.made.wrap_scheme) there in
      let k = wrapping_held q q.rules.keys keys kek hold w p.0 in
      record { key = k.0; long = k.1; parts = wrapped_parts keys hold s f p.1 }

  -- a demand that the row meets is met by each message of it
  met : (keys : OpenedKeys) → KeysHold q q.rules.keys keys → (d : Demand) → meets fs q.rules d ≡ true → Met q keys d
  met keys hold (so fact) h = h
  met keys hold (has_digits n k) h = digits_there n k h
  met keys hold (has_hex16 k) h = text_is is_hex16 (AreHexDigits 16) hex16_means fs q.read.texts k texts h
  met keys hold (has_length k) h = text_is is_length IsLength length_means fs q.read.texts k texts h
  met keys hold (has_clear_pin k) h = text_is is_clear_pin IsTwelve clear_means fs q.read.texts k texts h
  met keys hold (has_validation k) h = text_is is_validation IsValidation validation_means fs q.read.texts k texts h
  met keys hold (has_pan k) h = text_is is_account IsAccount account_means fs q.read.texts k texts h
  met keys hold (has_account source) h = account_there (account_field source) h
  met keys hold (has_mac_texts f) h = mac_stands fs q.read texts f h
  met keys hold (has_key k) h = (key_held q q.rules.keys keys k hold h).0
  met keys hold (has_pair k) h =
      let p = and_parts _ _ h in
      let key = key_held q q.rules.keys keys k hold p.0 in
      (key.0, key.1 ∙ text_is is_pair HasTwoParts pair_means fs q.read.texts k texts p.1)
  met keys hold (has_key_under k kek) h = key_under q q.rules.keys keys k kek hold h
  met keys hold (fits_algorithm f) h =
      takes_by (bytes_eq (field_text q.read f.algorithm) (codes "3")) (lmk_key q f.key) (key_taken q q.rules.keys keys f.key f.algorithm hold h)
  met keys hold (has_sound_data f) h = λ good. data_sound f good h
  met keys hold (has_least k) h = λ good. least_given k good h
  met keys hold (fits_scheme s) h = sealed_parts keys hold s h
  met keys hold (can_wrap s kek) h = λ there.
      let p = and_parts _ _ h in
      wraps_there keys hold s kek p.0 p.1 there
  met keys hold (has_components ks) h = components_there fs q.read texts q.rules.made.scheme ks h

  all_met : (keys : OpenedKeys) → KeysHold q q.rules.keys keys → (ds : List Demand) → meets_all fs q.rules ds ≡ true → AllMet q keys ds
  all_met keys hold [] h = tt
  all_met keys hold (d ∷ ds) h = let p = and_parts _ _ h in (met keys hold d p.0, all_met keys hold ds p.1)

  each_met : (keys : OpenedKeys) → KeysHold q q.rules.keys keys → (ds : List (List Demand)) → meets_each fs q.rules ds ≡ true → EachMet q keys ds
  each_met keys hold [] h = tt
  each_met keys hold (d ∷ ds) h = let p = and_parts _ _ h in (all_met keys hold d p.0, each_met keys hold ds p.1)

  ask_stands : (ask : AskKind) → ask_fits fs ask ≡ true → AskStands q.read ask
  ask_stands AuthoriseAsk h = text_is is_minutes_form AreMinutes minutes_mean fs q.read.texts 1 texts h
  ask_stands CancelAsk h = tt
  ask_stands UseAsk h = tt
  ask_stands LookAsk h = tt
  ask_stands RecentAsk h = tt
  ask_stands CancelAllAsk h = tt

-- the tests of a row, one by one
pub record Fits (fs : List Field) (rules : RowRules) (ts : List Term) : Type 0 where
  pub fields : nat_le (length fs) 12 ≡ true
  pub few : nat_le (length ts) 9 ≡ true
  pub keys : keys_fit rules.keys ≡ true
  pub have : have_pin false rules.checks ≡ true
  pub ask : ask_fits fs rules.ask ≡ true
  pub parts : meets_all fs rules (parts_demands rules rules.parts_differ) ≡ true
  pub pin : meets_all fs rules (pin_demands rules.pin) ≡ true
  pub checks : meets_each fs rules (map (check_demands rules.pin) rules.checks) ≡ true
  pub value : meets_all fs rules (value_demands rules rules.value) ≡ true
  pub words : meets_all fs rules (word_demands rules rules.words) ≡ true
  pub terms : meets_each fs rules (map (term_demands rules) ts) ≡ true

pub each_test : (fs : List Field) (rules : RowRules) (ts : List Term) → all_true (all_fit fs rules ts) ≡ true → Fits fs rules ts
each_test fs rules ts h =
    let fields = and_parts _ _ h in
    let few = and_parts _ _ fields.1 in
    let keys = and_parts _ _ few.1 in
    let have = and_parts _ _ keys.1 in
    let ask = and_parts _ _ have.1 in
    let parts = and_parts _ _ ask.1 in
    let pin = and_parts _ _ parts.1 in
    let checks = and_parts _ _ pin.1 in
    let value = and_parts _ _ checks.1 in
    let words = and_parts _ _ value.1 in
    let terms = and_parts _ _ words.1 in
    record {
      fields = fields.0;
      few = few.0;
      keys = keys.0;
      have = have.0;
      ask = ask.0;
      parts = parts.0;
      pin = pin.0;
      checks = checks.0;
      value = value.0;
      words = words.0;
      terms = terms.0;
    }

row_stands : (q : ReadMessage) (fs : List Field) (ts : List Term) → Fits fs q.rules ts → AreRead fs q.read.texts → RowStands q
row_stands q fs ts fit texts = record {
  keys = keys_stand q q.rules.keys refl fit.keys;
  have = fit.have;
  ask = ask_stands q fs texts q.rules.ask fit.ask;
  steps = λ keys hold. record {
    parts = all_met q fs texts keys hold (parts_demands q.rules q.rules.parts_differ) fit.parts;
    pin = all_met q fs texts keys hold (pin_demands q.rules.pin) fit.pin;
    checks = each_met q fs texts keys hold (map (check_demands q.rules.pin) q.rules.checks) fit.checks;
    value = all_met q fs texts keys hold (value_demands q.rules q.rules.value) fit.value;
    words = all_met q fs texts keys hold (word_demands q.rules q.rules.words) fit.words;
  };
}

short_reply : (reply : List ℕ) → (is_end reply || length reply == 2) ≡ true → length reply ≤ 2
short_reply [] h = omega arith
short_reply (c ∷ cs) h = omega (arith, equal_to (length (c ∷ cs)) 2 h)

pub fits_followed : (row : RowShape) → rules_fit row ≡ true → IsFollowed row
unfolding rules_fit
fits_followed row h =
    let p = and_parts _ _ h in
    let k = and_parts _ _ p.0 in
    let fit = each_test row.fields (rules_of row) row.terms p.1 in
    record {
      few = at_most (length row.fields) 12 fit.fields;
      reply = short_reply row.reply k.0;
      room = λ text r texts reads. room_is row text r (at_most (length row.terms) 9 fit.few) texts reads k.1;
      stands = λ m r texts. row_stands (read_by m row r) row.fields row.terms fit texts;
      terms = λ m r texts keys hold. each_met (read_by m row r) row.fields texts keys hold (map (term_demands (rules_of row)) row.terms) fit.terms;
    }
