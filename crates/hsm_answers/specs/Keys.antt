-- The keys of a message: their texts and types, and what is wrong with them.
use Rattle.std.specs.Prelude.{ℕ, ◌*◌, Bool, false, ◌&&◌, ◌||◌, not, ◌==◌, if◌then◌else◌, List, [], ◌∷◌, ◌++◌, length, map, Option, Some, None, codes}
use Rattle.std.specs.Str.{bytes_eq}
use Rattle.std.specs.List.{list_all}
use Rattle.std.specs.Char.{is_ascii_hexdigit}
use Rattle.std.specs.Option.{unwrap_or}
use Rattle.hsm_types.specs.declared.types.KeyType.{KeyType}
use Rattle.hsm_types.specs.declared.types.KeyType.TheVariants.{Zmk, Tpk}
use Rattle.hsm_types.specs.declared.types.Scheme.{Scheme}
use Rattle.hsm_types.specs.declared.types.Scheme.TheVariants as scheme
use Rattle.hsm_types.specs.Table.{type_with, allows_length}
use Rattle.hsm_types.specs.Schemes.{scheme_parts}
use Rattle.hsm_nibbles.specs.Characters.{bytes_of_hex, hex_of_bytes}
use Rattle.hsm_lmk.specs.Pairs.{set_at}
use Rattle.hsm_lmk.specs.Sealing.{wrap}
use Rattle.hsm_lmk.specs.Opening.{refuses_scheme, is_untagged_pair}
use Rattle.hsm_lmk.specs.Opened.{sealed, opened, all_odd}
use Rattle.hsm_text.specs.KeyTexts.{scheme_named, scheme_of, digits_of}
use Rattle.hsm_rows.specs.declared.row.Code.{Code}
use Rattle.hsm_answers.specs.Read.{ReadMessage}
use Rattle.hsm_answers.specs.declared.keys.Asked.{Asked}
use Rattle.hsm_rows.specs.Forms.{text_at, is_ff}
use Rattle.hsm_rows.specs.Reading.{ReadText, is_end}
use Rattle.hsm_rows.specs.declared.rules.KeyCheck.{KeyCheck}
use Rattle.hsm_rows.specs.declared.rules.TypeSource.{TypeSource}
use Rattle.hsm_rows.specs.declared.rules.LengthRule.{LengthRule}
use Rattle.hsm_rows.specs.declared.rules.Under.{Under}
use Rattle.hsm_rows.specs.declared.rules.TypeSource.TheVariants.{Fixed, Named, ByPair, WrapperType}
use Rattle.hsm_rows.specs.declared.rules.KeyCheck.TheVariants.{GivenKey, Target}
use Rattle.hsm_rows.specs.declared.rules.LengthRule.TheVariants.{AnyLength, AsScheme, FlagPlusOne, TwoForAlgorithmThree}
use Rattle.hsm_rows.specs.declared.rules.Under.TheVariants.{Lmk, KeyAt}

-- the text of field k
abbrev pub field_text : ReadText → ℕ → List ℕ
field_text r k = text_at r.texts k

-- whether field k is absent
abbrev pub is_absent : ReadText → ℕ → Bool
is_absent r k = is_end (field_text r k)

-- the LMK set that the message names
abbrev pub set_of : ReadMessage → List (List (List ℕ))
set_of q = set_at q.«module».lmks.items q.read.set

-- the scheme that a scheme field names
abbrev pub scheme_at : ReadText → ℕ → Scheme
scheme_at r k = scheme_named (field_text r k)

-- a key text's scheme and bytes
pub record KeyData : Type 0 where
  pub scheme : Scheme
  pub bytes : List ℕ

-- whether the digits are those of a key of the scheme
abbrev pub is_whole : Scheme → List ℕ → Bool
is_whole s digits = length digits == 16 * scheme_parts s && list_all is_ascii_hexdigit digits

-- the scheme and the bytes of a key text; every text that reads as a key has them
unfoldable pub key_of : List ℕ → Option KeyData
key_of t =
    if is_whole (scheme_of t) (digits_of t) then Some (record { scheme = scheme_of t; bytes = bytes_of_hex (digits_of t) }) else None

-- those of the text of field k
abbrev pub key_data : ReadText → ℕ → Option KeyData
key_data r k = key_of (field_text r k)

-- the tag of a scheme; Z is written without one, and P is never written
abbrev pub tag_of : Scheme → List ℕ
tag_of scheme.Z = []
tag_of scheme.P = []
tag_of scheme.U = codes "U"
tag_of scheme.T = codes "T"
tag_of scheme.X = codes "X"
tag_of scheme.Y = codes "Y"

-- the text of a key sealed under w in the scheme
abbrev pub key_text : List (List ℕ) → Scheme → List (List ℕ) → List ℕ
key_text w s key = tag_of s ++ hex_of_bytes (sealed w s key)

-- the type of a code; every code that reads as a type is in the table
abbrev pub type_of_code : List ℕ → KeyType
type_of_code code = unwrap_or (type_with code) Zmk

-- the type of a wrapping key: TMK where `[;f]` gives 1, else ZMK
abbrev pub wrapper_of : List ℕ → KeyType
wrapper_of text = if bytes_eq text (codes ";1") then Tpk else Zmk

-- the type of a `type2` field, or the one that follows FF
abbrev pub pair_type : List ℕ → List ℕ → KeyType
pair_type pair full = if is_ff pair then type_of_code full else type_of_code (codes "0" ++ pair)

-- the type that the row names
unfoldable pub type_of : ReadText → TypeSource → KeyType
type_of r (Fixed ty) = ty
type_of r (Named k) = type_of_code (field_text r k)
type_of r (ByPair k full) = pair_type (field_text r k) (field_text r full)
type_of r (WrapperType k) = wrapper_of (field_text r k)

-- the type that the row names for the key of field k
abbrev pub source_at : ℕ → List KeyCheck → TypeSource
source_at k [] = Fixed Zmk
source_at k (GivenKey j under ty wraps rule parity ∷ more) = if k == j then ty else source_at k more
source_at k (Target ty j second ∷ more) = source_at k more

-- the key that a text is under w
abbrev pub opened_key : List (List ℕ) → Option KeyData → List (List ℕ)
opened_key w None = []
opened_key w (Some k) = opened w k.scheme k.bytes

-- the key of field k under the LMK pair of the type that the row names
unfoldable pub lmk_key : ReadMessage → ℕ → List (List ℕ)
lmk_key q k = opened_key (wrap (set_of q) (type_of q.read (source_at k q.rules.keys))) (key_data q.read k)

-- the key of field k under the key of field kek
abbrev pub wrapped_key : ReadMessage → ℕ → ℕ → List (List ℕ)
wrapped_key q k kek = opened_key (lmk_key q kek) (key_data q.read k)

-- the number of parts that a scheme field asks for
abbrev pub parts_by_scheme : LengthRule → ReadText → Option ℕ
parts_by_scheme AnyLength r = None
parts_by_scheme (AsScheme k) r = Some (scheme_parts (scheme_at r k))
parts_by_scheme (FlagPlusOne k) r = None
parts_by_scheme (TwoForAlgorithmThree k) r = None

-- the number of parts of a flag: flag plus 1
abbrev pub flag_parts : List ℕ → ℕ
flag_parts flag = if bytes_eq flag (codes "0") then 1 else if bytes_eq flag (codes "1") then 2 else 3

-- the number of parts that a flag or an algorithm asks for
abbrev pub parts_by_rule : LengthRule → ReadText → Option ℕ
parts_by_rule AnyLength r = None
parts_by_rule (AsScheme k) r = None
parts_by_rule (FlagPlusOne k) r = Some (flag_parts (field_text r k))
parts_by_rule (TwoForAlgorithmThree k) r = if bytes_eq (field_text r k) (codes "3") then Some 2 else None

-- another number of parts is asked for
abbrev pub differs : Option ℕ → ℕ → Bool
differs None parts = false
differs (Some wanted) parts = not (parts == wanted)

-- no key has this scheme there: under an LMK by the type, under another key the untagged pair
abbrev pub scheme_fails : Under → KeyType → Scheme → Bool
scheme_fails Lmk ty s = refuses_scheme ty s
scheme_fails (KeyAt kek) ty s = is_untagged_pair s

-- 26 for the scheme, or for another length than that of a scheme field
abbrev pub scheme_fault : Under → Asked → Scheme → Bool
scheme_fault under a s = scheme_fails under a.ty s || differs a.by_scheme (scheme_parts s)

-- 27 for a length that the type doesn't allow, a wrapping key of one part, and another length than a flag or an algorithm asks for
abbrev pub length_fault : Asked → ℕ → Bool
length_fault a parts = not (allows_length a.ty parts) || (a.wraps && parts == 1 || differs a.by_rule parts)

-- 26, then 27, then the parity code of a key text under w; 15 where there is no such text or nothing that it is under, which no message that reads has
unfoldable pub key_data_fault : Option (List (List ℕ)) → Under → Asked → Option KeyData → Option ℕ
key_data_fault None under a k = Some 15
key_data_fault (Some w) under a None = Some 15
key_data_fault (Some w) under a (Some k) =
    if scheme_fault under a k.scheme then Some 26
    else if length_fault a (scheme_parts k.scheme) then Some 27
    else if all_odd (opened w k.scheme k.bytes) then None
    else Some a.parity.0

-- what is wrong with a given key: an absent wrapping key has no fault
abbrev pub given_fault : Option (List (List ℕ)) → Under → Asked → List ℕ → Option ℕ
given_fault w under a text = if a.wraps && is_end text then None else key_data_fault w under a (key_of text)

-- what the key of a field is under, if it is there
abbrev pub wrapping_key : ReadMessage → Under → KeyType → Option (List (List ℕ))
wrapping_key q Lmk ty = Some (wrap (set_of q) ty)
wrapping_key q (KeyAt kek) ty = if is_absent q.read kek then None else Some (lmk_key q kek)

-- two schemes of different lengths; the second may be absent
abbrev pub lengths_differ : ReadText → ℕ → Option ℕ → Bool
lengths_differ r k None = false
lengths_differ r k (Some j) = not (is_absent r j) && not (scheme_parts (scheme_at r k) == scheme_parts (scheme_at r j))

-- what a key check asks of a given key
abbrev pub asked_key : ReadText → TypeSource → Bool → LengthRule → Code → Asked
asked_key r ty wraps rule parity =
    record { ty = type_of r ty; wraps = wraps; by_scheme = parts_by_scheme rule r; by_rule = parts_by_rule rule r; parity = parity }

-- what is wrong with a key; one to be made has 26 where the lengths of its two schemes differ, and 27 where its type doesn't allow the length
unfoldable pub key_fault : ReadMessage → KeyCheck → Option ℕ
key_fault q (GivenKey k under ty wraps rule parity) =
    given_fault (wrapping_key q under (type_of q.read ty)) under (asked_key q.read ty wraps rule parity) (field_text q.read k)
key_fault q (Target ty k second) =
    if lengths_differ q.read k second then Some 26
    else if not (allows_length (type_of q.read ty) (scheme_parts (scheme_at q.read k))) then Some 27
    else None

-- the first of these codes
abbrev pub first_code : List (Option ℕ) → Option ℕ
first_code [] = None
first_code (None ∷ more) = first_code more
first_code (Some code ∷ more) = Some code

-- the first key, in the row's order, with a fault
unfoldable pub keys_fault : ReadMessage → List KeyCheck → Option ℕ
keys_fault q keys = first_code (map (key_fault q) keys)
