-- The keys that are held, by the list of the row's checks.
use Rattle.std.proofs.Common.{◌≡◌, ℕ, ◌≤◌, Bool, true, false, ◌&&◌, ◌||◌, not, List, [], ◌∷◌, length, Option, Some, None, refl, sym, ap, ◌∙◌, subst, arith, inl, inr}
use Rattle.std.specs.Prelude.{◌==◌, ◌⊎◌, if◌then◌else◌, IfSome, codes}
use Rattle.std.specs.Str.{bytes_eq}
use Rattle.std.proofs.lemmas.Bool.{and_parts}
use Rattle.std.proofs.lemmas.Bool.Decides.{nat_tests}
use Rattle.hsm_types.specs.Schemes.{scheme_parts}
use Rattle.hsm_text.specs.KeyTexts.{scheme_of}
use Rattle.hsm_rows.specs.declared.rules.KeyCheck.{KeyCheck}
use Rattle.hsm_rows.specs.declared.rules.KeyCheck.TheVariants.{GivenKey, Target}
use Rattle.hsm_rows.specs.declared.rules.TypeSource.{TypeSource}
use Rattle.hsm_rows.specs.declared.rules.LengthRule.{LengthRule}
use Rattle.hsm_rows.specs.declared.rules.LengthRule.TheVariants.{AnyLength, AsScheme, FlagPlusOne, TwoForAlgorithmThree}
use Rattle.hsm_rows.specs.declared.rules.Under.TheVariants.{Lmk, KeyAt}
use Rattle.hsm_rows.specs.Reading.{is_end}
use Rattle.hsm_answers.specs.Read.{ReadMessage}
use Rattle.hsm_answers.specs.Keys.{field_text, is_absent, source_at, scheme_at, lmk_key, wrapped_key, parts_by_scheme, parts_by_rule, differs, lengths_differ}
use Rattle.hsm_commands.specs.declared.keys.FieldKey.{FieldKey}
use Rattle.hsm_commands.specs.declared.keys.OpenedKeys.{OpenedKeys}
use Rattle.hsm_commands.specs.Opened.{found_in, first_of_two, key_by, field_key, given_key, IsUnder, KeyStands, KeyHolds, KeysHold, KeysStand}
use Rattle.hsm_commands.specs.Fit.{opens, differs_from, wraps_key, opens_in, is_own, follows, keys_fit, is_under, opens_under, is_scheme, is_sized, sizes_in, sizes_under, wraps_in, is_second, is_target, targets_in, is_three, takes_three, takes_in}

pub or_cases : (x y : Bool) → (x || y) ≡ true → (x ≡ true) ⊎ (y ≡ true)
or_cases true y h = inl refl
or_cases false y h = inr h

pub not_true : (b : Bool) → not b ≡ true → b ≡ false
not_true true h = let z : ⊥ = cc in absurd z
not_true false h = refl

pub same_number : (a b : ℕ) → (a == b) ≡ true → a ≡ b
same_number a b h = grind (arith, nat_tests)

itself : (k : ℕ) → (k == k) ≡ true
itself k = grind (arith, nat_tests)

turned : (a b : ℕ) (c : Bool) → (a == b) ≡ c → (b == a) ≡ c
turned a b true h = grind (arith, nat_tests)
turned a b false h = grind (arith, nat_tests)

found_yes : (held : Option FieldKey) (j k : ℕ) (key : List (List ℕ)) → held ≡ field_key j key → (k == j) ≡ true → found_in held k ≡ Some key
found_yes held j k key e h = ap (λ (x : Option FieldKey). found_in x k) e ∙ ap (λ (b : Bool). if b then Some key else None) (turned k j true h)

found_other : (j k : ℕ) (key : List (List ℕ)) (b : Bool) → (k == j) ≡ false → found_in (if b then None else field_key j key) k ≡ None
found_other j k key true h = refl
found_other j k key false h = ap (λ (b : Bool). if b then Some key else None) (turned k j false h)

left_there : (j : ℕ) (key : List (List ℕ)) (b : Bool) → b ≡ false → (if b then None else field_key j key) ≡ field_key j key
left_there j key b h = ap (λ (x : Bool). if x then None else field_key j key) h

module _ (q : ReadMessage) where
  -- a key of another field
  held_differs : (check : KeyCheck) (held : Option FieldKey) (k : ℕ) → KeyHolds q check held → differs_from k check ≡ true → found_in held k ≡ None
  held_differs (GivenKey j Lmk ty wraps rule parity) held k h d =
      ap (λ (x : Option FieldKey). found_in x k) h.0 ∙ found_other j k (lmk_key q j) (wraps && is_end (field_text q.read j)) (not_true (k == j) d)
  held_differs (GivenKey j (KeyAt kek) ty wraps rule parity) held k h d =
      ap (λ (x : Option FieldKey). found_in x k) h.0 ∙ found_other j k (wrapped_key q j kek) false (not_true (k == j) d)
  held_differs (Target ty j second) held k h d = ap (λ (x : Option FieldKey). found_in x k) h.0

  -- the key of a field, with as many parts as its text's scheme
  abbrev pub IsHeld : Option (List (List ℕ)) → ℕ → Type 0
  IsHeld found k = (found ≡ Some (lmk_key q k)) × (length (lmk_key q k) ≡ scheme_parts (scheme_of (field_text q.read k)))

  held_at : (held : Option FieldKey) (j k : ℕ) → held ≡ field_key j (lmk_key q j) → (k == j) ≡ true
      → length (lmk_key q j) ≡ scheme_parts (scheme_of (field_text q.read j)) → IsHeld (found_in held k) k
  held_at held j k e h n =
      let same : j ≡ k = sym (same_number k j h) in
      let P : ℕ → Type 0 = λ i. (found_in held k ≡ Some (lmk_key q i)) × (length (lmk_key q i) ≡ scheme_parts (scheme_of (field_text q.read i))) in
      subst P same (found_yes held j k (lmk_key q j) e h, n)

  held_opens : (check : KeyCheck) (held : Option FieldKey) (k : ℕ) → KeyHolds q check held → (opens k check && not (wraps_key check)) ≡ true → IsHeld (found_in held k) k
  held_opens (GivenKey j Lmk ty wraps rule parity) held k h o =
      let p = and_parts _ _ o in
      let left : (wraps && is_end (field_text q.read j)) ≡ false = ap (λ (b : Bool). b && is_end (field_text q.read j)) (not_true wraps p.1) in
      held_at held j k (h.0 ∙ left_there j (lmk_key q j) (wraps && is_end (field_text q.read j)) left) p.0 (h.1 left).parts
  held_opens (GivenKey j (KeyAt kek) ty wraps rule parity) held k h o = let z : ⊥ = cc in absurd z
  held_opens (Target ty j second) held k h o = let z : ⊥ = cc in absurd z

  first_held : (first second : Option FieldKey) (k : ℕ) → IsHeld (found_in first k) k → IsHeld (first_of_two (found_in first k) (found_in second k)) k
  first_held first second k h = (ap (λ (x : Option (List (List ℕ))). first_of_two x (found_in second k)) h.0, h.1)

  second_held : (first second : Option FieldKey) (k : ℕ) → found_in first k ≡ None → IsHeld (found_in second k) k → IsHeld (first_of_two (found_in first k) (found_in second k)) k
  second_held first second k n h = (ap (λ (x : Option (List (List ℕ))). first_of_two x (found_in second k)) n ∙ h.0, h.1)

  two_held : (a b : KeyCheck) (keys : OpenedKeys) (k : ℕ) → KeyHolds q a keys.first → KeyHolds q b keys.second
      → ((opens k a && not (wraps_key a)) ≡ true) ⊎ ((differs_from k a && (opens k b && not (wraps_key b))) ≡ true) → IsHeld (key_by keys k) k
  two_held a b keys k ha hb (inl o) = first_held keys.first keys.second k (held_opens a keys.first k ha o)
  two_held a b keys k ha hb (inr o) =
      let p = and_parts _ _ o in
      second_held keys.first keys.second k (held_differs a keys.first k ha p.0) (held_opens b keys.second k hb p.1)

  -- a key that the row's checks open is held
  pub key_held : (list : List KeyCheck) (keys : OpenedKeys) (k : ℕ) → KeysHold q list keys → opens_in k list ≡ true → IsHeld (key_by keys k) k
  key_held [] keys k h o = let z : ⊥ = cc in absurd z
  key_held (a ∷ []) keys k h o = first_held keys.first keys.second k (held_opens a keys.first k h.0 o)
  key_held (a ∷ b ∷ []) keys k h o = two_held a b keys k h.0 h.1 (or_cases _ _ o)
  key_held (a ∷ b ∷ c ∷ more) keys k h o = absurd h

  -- the second key is under the first
  under_first : (first : Option FieldKey) (j kek : ℕ) → first ≡ given_key j true (field_text q.read j) (lmk_key q j)
      → (is_end (field_text q.read j) ≡ false → 2 ≤ length (lmk_key q j)) → (kek == j) ≡ true → IsUnder q first kek
  under_first first j kek e long h =
      let same : j ≡ kek = sym (same_number kek j h) in
      let P : ℕ → Type 0 = λ i. IsUnder q first i in
      subst P same (record {
        absent = λ a. ap (λ (x : Option FieldKey). found_in x j) (e ∙ ap (λ (b : Bool). if b then None else field_key j (lmk_key q j)) a);
        there = λ a. found_yes first j j (lmk_key q j) (e ∙ ap (λ (b : Bool). if b then None else field_key j (lmk_key q j)) a) (itself j);
        long = long;
      })

  own_stands : (check : KeyCheck) (more : List KeyCheck) → q.rules.keys ≡ check ∷ more → is_own check ≡ true → KeyStands q None check
  own_stands (GivenKey k Lmk ty wraps rule parity) more e h =
      ap (source_at k) e ∙ ap (λ (b : Bool). if b then ty else source_at k more) (itself k)
  own_stands (GivenKey k (KeyAt kek) ty wraps rule parity) more e h = let z : ⊥ = cc in absurd z
  own_stands (Target ty k second) more e h = tt

  second_source : (a : KeyCheck) (k : ℕ) (ty : TypeSource) (more : List KeyCheck) → differs_from k a ≡ true → source_at k more ≡ ty → source_at k (a ∷ more) ≡ ty
  second_source (GivenKey j under other wraps rule parity) k ty more d h = ap (λ (b : Bool). if b then other else source_at k more) (not_true (k == j) d) ∙ h
  second_source (Target other j second) k ty more d h = h

  under_stands : (a : KeyCheck) (first : Option FieldKey) (kek : ℕ) → wraps_key a ≡ true → opens kek a ≡ true → KeyHolds q a first → IsUnder q first kek
  under_stands (GivenKey j Lmk ty true rule parity) first kek w o h = under_first first j kek h.0 (λ e. (h.1 e).wrapping refl) o
  under_stands (GivenKey j Lmk ty false rule parity) first kek w o h = let z : ⊥ = cc in absurd z
  under_stands (GivenKey j (KeyAt other) ty wraps rule parity) first kek w o h = let z : ⊥ = cc in absurd z
  under_stands (Target ty j second) first kek w o h = let z : ⊥ = cc in absurd z

  second_stands : (a b : KeyCheck) → q.rules.keys ≡ a ∷ b ∷ [] → follows a b ≡ true → (first : Option FieldKey) → KeyHolds q a first → KeyStands q first b
  second_stands a (GivenKey k Lmk ty wraps rule parity) e f first h =
      ap (source_at k) e
      ∙ second_source a k ty (GivenKey k Lmk ty wraps rule parity ∷ []) f (ap (λ (b : Bool). if b then ty else source_at k []) (itself k))
  second_stands a (GivenKey k (KeyAt kek) ty wraps rule parity) e f first h =
      let p = and_parts _ _ f in
      let w = and_parts _ _ p.0 in
      let o = and_parts _ _ p.1 in
      (not_true wraps w.0, under_stands a first kek w.1 o.0 h)
  second_stands a (Target ty k second) e f first h = tt

  -- the checks of the keys have what they need
  pub keys_stand : (list : List KeyCheck) → q.rules.keys ≡ list → keys_fit list ≡ true → KeysStand q list
  keys_stand [] e h = tt
  keys_stand (a ∷ []) e h = own_stands a [] e h
  keys_stand (a ∷ b ∷ []) e h =
      let p = and_parts _ _ h in
      (own_stands a (b ∷ []) e p.0, second_stands a b e p.1)
  keys_stand (a ∷ b ∷ c ∷ more) e h = let z : ⊥ = cc in absurd z

  -- a wrapping key, where it is present
  abbrev pub IsWrapping : Option (List (List ℕ)) → ℕ → Type 0
  IsWrapping found k = (found ≡ Some (lmk_key q k)) × (2 ≤ length (lmk_key q k))

  wrapping_at : (held : Option FieldKey) (j k : ℕ) → held ≡ field_key j (lmk_key q j) → (k == j) ≡ true → 2 ≤ length (lmk_key q j) → IsWrapping (found_in held k) k
  wrapping_at held j k e h n =
      let same : j ≡ k = sym (same_number k j h) in
      let P : ℕ → Type 0 = λ i. (found_in held k ≡ Some (lmk_key q i)) × (2 ≤ length (lmk_key q i)) in
      subst P same (found_yes held j k (lmk_key q j) e h, n)

  wrapping_opens : (check : KeyCheck) (held : Option FieldKey) (k : ℕ) → KeyHolds q check held → (opens k check && wraps_key check) ≡ true → is_absent q.read k ≡ false → IsWrapping (found_in held k) k
  wrapping_opens (GivenKey j Lmk ty wraps rule parity) held k h o present =
      let p = and_parts _ _ o in
      let same : k ≡ j = same_number k j p.0 in
      let there : is_end (field_text q.read j) ≡ false = ap (λ (i : ℕ). is_end (field_text q.read i)) (sym same) ∙ present in
      let left : (wraps && is_end (field_text q.read j)) ≡ false = ap (λ (b : Bool). b && is_end (field_text q.read j)) p.1 ∙ there in
      wrapping_at held j k (h.0 ∙ left_there j (lmk_key q j) (wraps && is_end (field_text q.read j)) left) p.0 ((h.1 left).wrapping p.1)
  wrapping_opens (GivenKey j (KeyAt kek) ty wraps rule parity) held k h o present = let z : ⊥ = cc in absurd z
  wrapping_opens (Target ty j second) held k h o present = let z : ⊥ = cc in absurd z

  wrapping_two : (a b : KeyCheck) (keys : OpenedKeys) (k : ℕ) → KeyHolds q a keys.first → KeyHolds q b keys.second
      → ((opens k a && wraps_key a) ≡ true) ⊎ ((differs_from k a && (opens k b && wraps_key b)) ≡ true) → is_absent q.read k ≡ false → IsWrapping (key_by keys k) k
  wrapping_two a b keys k ha hb (inl o) present =
      let h = wrapping_opens a keys.first k ha o present in
      (ap (λ (x : Option (List (List ℕ))). first_of_two x (found_in keys.second k)) h.0, h.1)
  wrapping_two a b keys k ha hb (inr o) present =
      let p = and_parts _ _ o in
      let h = wrapping_opens b keys.second k hb p.1 present in
      (ap (λ (x : Option (List (List ℕ))). first_of_two x (found_in keys.second k)) (held_differs a keys.first k ha p.0) ∙ h.0, h.1)

  pub wrapping_held : (list : List KeyCheck) (keys : OpenedKeys) (k : ℕ) → KeysHold q list keys → wraps_in k list ≡ true → is_absent q.read k ≡ false → IsWrapping (key_by keys k) k
  wrapping_held [] keys k h o present = let z : ⊥ = cc in absurd z
  wrapping_held (a ∷ []) keys k h o present =
      let w = wrapping_opens a keys.first k h.0 o present in
      (ap (λ (x : Option (List (List ℕ))). first_of_two x (found_in keys.second k)) w.0, w.1)
  wrapping_held (a ∷ b ∷ []) keys k h o present = wrapping_two a b keys k h.0 h.1 (or_cases _ _ o) present
  wrapping_held (a ∷ b ∷ c ∷ more) keys k h o present = absurd h

  -- the key under another
  under_held : (check : KeyCheck) (first held : Option FieldKey) (k kek : ℕ) → KeyHolds q check held → is_under k kek check ≡ true → found_in first k ≡ None
      → first_of_two (found_in first k) (found_in held k) ≡ Some (wrapped_key q k kek)
  under_held (GivenKey j (KeyAt i) ty wraps rule parity) first held k kek h u n =
      let p = and_parts _ _ u in
      let e : k ≡ j = same_number k j p.0 in
      let f : kek ≡ i = same_number kek i p.1 in
      let found = found_yes held j k (wrapped_key q j i) h.0 p.0 in
      ap (λ (x : Option (List (List ℕ))). first_of_two x (found_in held k)) n
      ∙ (found ∙ (ap (λ (x : ℕ). Some (wrapped_key q x i)) (sym e) ∙ ap (λ (x : ℕ). Some (wrapped_key q k x)) (sym f)))
  under_held (GivenKey j Lmk ty wraps rule parity) first held k kek h u n = let z : ⊥ = cc in absurd z
  under_held (Target ty j second) first held k kek h u n = let z : ⊥ = cc in absurd z

  pub key_under : (list : List KeyCheck) (keys : OpenedKeys) (k kek : ℕ) → KeysHold q list keys → opens_under k kek list ≡ true → key_by keys k ≡ Some (wrapped_key q k kek)
  key_under [] keys k kek h o = let z : ⊥ = cc in absurd z
  key_under (a ∷ []) keys k kek h o = let z : ⊥ = cc in absurd z
  key_under (a ∷ b ∷ []) keys k kek h o =
      let p = and_parts _ _ o in
      under_held b keys.first keys.second k kek h.1 p.0 (held_differs a keys.first k h.0 p.1)
  key_under (a ∷ b ∷ c ∷ more) keys k kek h o = absurd h

  -- keys of as many parts as a scheme has
  by_rule : (rule : LengthRule) (j n : ℕ) → is_scheme j rule ≡ true → IfSome (parts_by_scheme rule q.read) (λ (x : ℕ). n ≡ x) → n ≡ scheme_parts (scheme_at q.read j)
  by_rule AnyLength j n s h = let z : ⊥ = cc in absurd z
  by_rule (AsScheme i) j n s h = h ∙ ap (λ (x : ℕ). scheme_parts (scheme_at q.read x)) (sym (same_number j i s))
  by_rule (FlagPlusOne i) j n s h = let z : ⊥ = cc in absurd z
  by_rule (TwoForAlgorithmThree i) j n s h = let z : ⊥ = cc in absurd z

  sized_opens : (check : KeyCheck) (held : Option FieldKey) (k j : ℕ) → KeyHolds q check held → ((opens k check && not (wraps_key check)) && is_sized j check) ≡ true
      → length (lmk_key q k) ≡ scheme_parts (scheme_at q.read j)
  sized_opens (GivenKey i Lmk ty wraps rule parity) held k j h o =
      let p = and_parts _ _ o in
      let w = and_parts _ _ p.0 in
      let left : (wraps && is_end (field_text q.read i)) ≡ false = ap (λ (b : Bool). b && is_end (field_text q.read i)) (not_true wraps w.1) in
      ap (λ (x : ℕ). length (lmk_key q x)) (same_number k i w.0) ∙ by_rule rule j (length (lmk_key q i)) p.1 (h.1 left).scheme
  sized_opens (GivenKey i (KeyAt kek) ty wraps rule parity) held k j h o = let z : ⊥ = cc in absurd z
  sized_opens (Target ty i second) held k j h o = let z : ⊥ = cc in absurd z

  sized_two : (a b : KeyCheck) (keys : OpenedKeys) (k j : ℕ) → KeyHolds q a keys.first → KeyHolds q b keys.second
      → (((opens k a && not (wraps_key a)) && is_sized j a) ≡ true) ⊎ (((opens k b && not (wraps_key b)) && is_sized j b) ≡ true)
      → length (lmk_key q k) ≡ scheme_parts (scheme_at q.read j)
  sized_two a b keys k j ha hb (inl o) = sized_opens a keys.first k j ha o
  sized_two a b keys k j ha hb (inr o) = sized_opens b keys.second k j hb o

  pub key_sized : (list : List KeyCheck) (keys : OpenedKeys) (k j : ℕ) → KeysHold q list keys → sizes_in k j list ≡ true → length (lmk_key q k) ≡ scheme_parts (scheme_at q.read j)
  key_sized [] keys k j h o = let z : ⊥ = cc in absurd z
  key_sized (a ∷ []) keys k j h o = sized_opens a keys.first k j h.0 o
  key_sized (a ∷ b ∷ []) keys k j h o = sized_two a b keys k j h.0 h.1 (or_cases _ _ o)
  key_sized (a ∷ b ∷ c ∷ more) keys k j h o = absurd h

  sized_under : (check : KeyCheck) (held : Option FieldKey) (k kek j : ℕ) → KeyHolds q check held → is_under k kek check ≡ true → is_sized j check ≡ true
      → length (wrapped_key q k kek) ≡ scheme_parts (scheme_at q.read j)
  sized_under (GivenKey l (KeyAt i) ty wraps rule parity) held k kek j h u s =
      let p = and_parts _ _ u in
      ap (λ (x : ℕ). length (wrapped_key q x kek)) (same_number k l p.0)
      ∙ (ap (λ (x : ℕ). length (wrapped_key q l x)) (same_number kek i p.1) ∙ by_rule rule j (length (wrapped_key q l i)) s h.1)
  sized_under (GivenKey l Lmk ty wraps rule parity) held k kek j h u s = let z : ⊥ = cc in absurd z
  sized_under (Target ty l second) held k kek j h u s = let z : ⊥ = cc in absurd z

  pub under_sized : (list : List KeyCheck) (keys : OpenedKeys) (k kek j : ℕ) → KeysHold q list keys → sizes_under k kek j list ≡ true
      → length (wrapped_key q k kek) ≡ scheme_parts (scheme_at q.read j)
  under_sized [] keys k kek j h o = let z : ⊥ = cc in absurd z
  under_sized (a ∷ []) keys k kek j h o = let z : ⊥ = cc in absurd z
  under_sized (a ∷ b ∷ []) keys k kek j h o = let p = and_parts _ _ o in sized_under b keys.second k kek j h.1 p.0 p.1
  under_sized (a ∷ b ∷ c ∷ more) keys k kek j h o = absurd h

  -- two schemes of one length
  not_different : (a b : ℕ) (absent : Bool) → absent ≡ false → (not absent && not (a == b)) ≡ false → a ≡ b
  not_different a b absent e h = grind (arith, nat_tests)

  second_same : (k j : ℕ) (second : Option ℕ) → is_second j second ≡ true → lengths_differ q.read k second ≡ false → is_absent q.read j ≡ false
      → scheme_parts (scheme_at q.read k) ≡ scheme_parts (scheme_at q.read j)
  second_same k j None s d present = let z : ⊥ = cc in absurd z
  second_same k j (Some i) s d present =
      let e : j ≡ i = same_number j i s in
      let there : is_absent q.read i ≡ false = ap (λ (x : ℕ). is_absent q.read x) (sym e) ∙ present in
      not_different (scheme_parts (scheme_at q.read k)) (scheme_parts (scheme_at q.read i)) (is_absent q.read i) there d
      ∙ ap (λ (x : ℕ). scheme_parts (scheme_at q.read x)) (sym e)

  target_same : (check : KeyCheck) (held : Option FieldKey) (k j : ℕ) → KeyHolds q check held → is_target k j check ≡ true → is_absent q.read j ≡ false
      → scheme_parts (scheme_at q.read k) ≡ scheme_parts (scheme_at q.read j)
  target_same (Target ty i second) held k j h t present =
      let p = and_parts _ _ t in
      ap (λ (x : ℕ). scheme_parts (scheme_at q.read x)) (same_number k i p.0) ∙ second_same i j second p.1 h.1 present
  target_same (GivenKey i under ty wraps rule parity) held k j h t present = let z : ⊥ = cc in absurd z

  pub targets_same : (list : List KeyCheck) (keys : OpenedKeys) (k j : ℕ) → KeysHold q list keys → targets_in k j list ≡ true → is_absent q.read j ≡ false
      → scheme_parts (scheme_at q.read k) ≡ scheme_parts (scheme_at q.read j)
  targets_same [] keys k j h t present = let z : ⊥ = cc in absurd z
  targets_same (a ∷ []) keys k j h t present = target_same a keys.first k j h.0 t present
  targets_same (a ∷ b ∷ []) keys k j h t present = target_same a keys.first k j h.0 t present
  targets_same (a ∷ b ∷ c ∷ more) keys k j h t present = absurd h

  -- a key of which the algorithm takes the parts
  three_of : (rule : LengthRule) (j n : ℕ) → is_three j rule ≡ true → differs (parts_by_rule rule q.read) n ≡ false
      → differs (if bytes_eq (field_text q.read j) (codes "3") then Some 2 else None) n ≡ false
  three_of AnyLength j n s h = let z : ⊥ = cc in absurd z
  three_of (AsScheme i) j n s h = let z : ⊥ = cc in absurd z
  three_of (FlagPlusOne i) j n s h = let z : ⊥ = cc in absurd z
  three_of (TwoForAlgorithmThree i) j n s h =
      ap (λ (x : ℕ). differs (if bytes_eq (field_text q.read x) (codes "3") then Some 2 else None) n) (same_number j i s) ∙ h

  three_opens : (check : KeyCheck) (held : Option FieldKey) (k j : ℕ) → KeyHolds q check held → ((opens k check && not (wraps_key check)) && takes_three j check) ≡ true
      → differs (if bytes_eq (field_text q.read j) (codes "3") then Some 2 else None) (length (lmk_key q k)) ≡ false
  three_opens (GivenKey i Lmk ty wraps rule parity) held k j h o =
      let p = and_parts _ _ o in
      let w = and_parts _ _ p.0 in
      let left : (wraps && is_end (field_text q.read i)) ≡ false = ap (λ (b : Bool). b && is_end (field_text q.read i)) (not_true wraps w.1) in
      ap (λ (x : ℕ). differs (if bytes_eq (field_text q.read j) (codes "3") then Some 2 else None) (length (lmk_key q x))) (same_number k i w.0)
      ∙ three_of rule j (length (lmk_key q i)) p.1 (h.1 left).rule
  three_opens (GivenKey i (KeyAt kek) ty wraps rule parity) held k j h o = let z : ⊥ = cc in absurd z
  three_opens (Target ty i second) held k j h o = let z : ⊥ = cc in absurd z

  pub key_taken : (list : List KeyCheck) (keys : OpenedKeys) (k j : ℕ) → KeysHold q list keys → takes_in k j list ≡ true
      → differs (if bytes_eq (field_text q.read j) (codes "3") then Some 2 else None) (length (lmk_key q k)) ≡ false
  key_taken [] keys k j h o = let z : ⊥ = cc in absurd z
  key_taken (a ∷ []) keys k j h o = three_opens a keys.first k j h.0 o
  key_taken (a ∷ b ∷ []) keys k j h o = three_opens a keys.first k j h.0 o
  key_taken (a ∷ b ∷ c ∷ more) keys k j h o = absurd h
