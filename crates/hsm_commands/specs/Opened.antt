-- The keys that a message's checks opened.
use Rattle.std.specs.Prelude.{◌≡◌, ℕ, ◌≤◌, Bool, true, false, ◌&&◌, ◌==◌, if◌then◌else◌, List, [], ◌∷◌, length, Option, Some, None, IfSome}
use Rattle.hsm_types.specs.Schemes.{scheme_parts}
use Rattle.hsm_text.specs.KeyTexts.{scheme_of}
use Rattle.hsm_rows.specs.declared.rules.KeyCheck.{KeyCheck}
use Rattle.hsm_rows.specs.declared.rules.KeyCheck.TheVariants.{GivenKey, Target}
use Rattle.hsm_rows.specs.declared.rules.Under.TheVariants.{Lmk, KeyAt}
use Rattle.hsm_rows.specs.Reading.{is_end}
use Rattle.hsm_answers.specs.Read.{ReadMessage}
use Rattle.hsm_answers.specs.declared.keys.Asked.{Asked}
use Rattle.hsm_answers.specs.Keys.{field_text, is_absent, source_at, asked_key, lmk_key, wrapped_key, parts_by_scheme, differs, lengths_differ}
use Rattle.hsm_commands.specs.declared.keys.FieldKey.{FieldKey}
use Rattle.hsm_commands.specs.declared.keys.OpenedKeys.{OpenedKeys}

-- the key, where it is that of field k
abbrev pub found_in : Option FieldKey → ℕ → Option (List (List ℕ))
found_in None k = None
found_in (Some held) k = if held.field == k then Some held.key else None

-- the first of two keys that is there
abbrev pub first_of_two : Option (List (List ℕ)) → Option (List (List ℕ)) → Option (List (List ℕ))
first_of_two None other = other
first_of_two (Some key) other = Some key

-- the key of field k, if it was opened
abbrev pub key_by : OpenedKeys → ℕ → Option (List (List ℕ))
key_by keys k = first_of_two (found_in keys.first k) (found_in keys.second k)

-- what a check leaves: the key of its field
abbrev pub field_key : ℕ → List (List ℕ) → Option FieldKey
field_key k key = Some (record { field = k; key = key })

-- the key of a field that may be absent: an absent wrapping key is not there
abbrev pub given_key : ℕ → Bool → List ℕ → List (List ℕ) → Option FieldKey
given_key k wraps text key = if wraps && is_end text then None else field_key k key

-- a key of a text has as many parts as the text's scheme, and as a scheme field asks for; and a wrapping key two or three
pub record IsSized (wraps : Bool) (text : List ℕ) (by_scheme by_rule : Option ℕ) (key : List (List ℕ)) : Type 0 where
  pub parts : length key ≡ scheme_parts (scheme_of text)
  pub wrapping : wraps ≡ true → 2 ≤ length key
  pub scheme : IfSome by_scheme (λ n. length key ≡ n)
  pub rule : differs by_rule (length key) ≡ false

-- the same where the field isn't an absent wrapping key
abbrev pub IsSizedThere : Bool → List ℕ → Option ℕ → Option ℕ → List (List ℕ) → Type 0
IsSizedThere wraps text by_scheme by_rule key = (wraps && is_end text) ≡ false → IsSized wraps text by_scheme by_rule key

-- what an earlier key must be for the key of another field to be under it
pub record IsUnder (q : ReadMessage) (earlier : Option FieldKey) (kek : ℕ) : Type 0 where
  pub absent : is_absent q.read kek ≡ true → found_in earlier kek ≡ None
  pub there : is_absent q.read kek ≡ false → found_in earlier kek ≡ Some (lmk_key q kek)
  pub long : is_absent q.read kek ≡ false → 2 ≤ length (lmk_key q kek)

module _ (q : ReadMessage) where
  -- what a key check needs: of the keys of the row the field's is of this type; and a key that it is under
  abbrev pub KeyStands : Option FieldKey → KeyCheck → Type 0
  KeyStands earlier (GivenKey k Lmk ty wraps rule parity) = source_at k q.rules.keys ≡ ty
  KeyStands earlier (GivenKey k (KeyAt kek) ty wraps rule parity) = (wraps ≡ false) × IsUnder q earlier kek
  KeyStands earlier (Target ty k second) = Unit {0}

  -- the key of field k under the LMK, of as many parts as is asked for
  abbrev pub IsLmkKey : ℕ → Asked → Option FieldKey → Type 0
  IsLmkKey k a held =
      (held ≡ given_key k a.wraps (field_text q.read k) (lmk_key q k)) × IsSizedThere a.wraps (field_text q.read k) a.by_scheme a.by_rule (lmk_key q k)

  -- what it leaves
  abbrev pub KeyHolds : KeyCheck → Option FieldKey → Type 0
  KeyHolds (GivenKey k Lmk ty wraps rule parity) held = IsLmkKey k (asked_key q.read ty wraps rule parity) held
  KeyHolds (GivenKey k (KeyAt kek) ty wraps rule parity) held =
      (held ≡ field_key k (wrapped_key q k kek)) × IfSome (parts_by_scheme rule q.read) (λ n. length (wrapped_key q k kek) ≡ n)
  KeyHolds (Target ty k second) held = (held ≡ None) × (lengths_differ q.read k second ≡ false)

  -- the same of the keys of a row, of which there are at most two
  abbrev pub KeysHold : List KeyCheck → OpenedKeys → Type 0
  KeysHold [] keys = (keys.first ≡ None) × (keys.second ≡ None)
  KeysHold (a ∷ []) keys = KeyHolds a keys.first × (keys.second ≡ None)
  KeysHold (a ∷ b ∷ []) keys = KeyHolds a keys.first × KeyHolds b keys.second
  KeysHold (a ∷ b ∷ c ∷ more) keys = ⊥

  -- and what they need
  abbrev pub KeysStand : List KeyCheck → Type 0
  KeysStand [] = Unit {0}
  KeysStand (a ∷ []) = KeyStands None a
  KeysStand (a ∷ b ∷ []) = KeyStands None a × ((first : Option FieldKey) → KeyHolds a first → KeyStands first b)
  KeysStand (a ∷ b ∷ c ∷ more) = ⊥
