-- What the texts of a row's fields are, where the row reads a message.
use Rattle.std.specs.Prelude.{◌≡◌, ◌≢◌, ◌⊎◌, ℕ, Bool, ◌+◌, ◌-◌, ◌%◌, ◌^◌, ◌<◌, ◌≤◌, true, false, List, [], ◌∷◌, ◌++◌, length, take, drop, codes, count_by}
use Rattle.std.specs.List.{list_all, prefix_len}
use Rattle.std.specs.Str.{bytes_eq}
use Rattle.std.specs.Char.{is_ascii_digit, is_ascii_hexdigit}
use Rattle.hsm_types.specs.Schemes.{scheme_parts}
use Rattle.hsm_types.specs.Table.{code_of}
use Rattle.hsm_types.specs.declared.types.KeyType as types
use Rattle.hsm_text.specs.KeyTexts.{scheme_of}
use Rattle.hsm_text.specs.declared.keys.KeyForm.{KeyForm}
use Rattle.hsm_text.specs.declared.keys.KeyForm.TheVariants as key
use Rattle.hsm_rows.specs.declared.row.Form.{Form}
use Rattle.hsm_rows.specs.declared.row.Form.TheVariants.{Digits1, Digits3, Digits4, Digits12, Digits16, Hex16, Key, Pair, WrappedKey, KeyByFlag, KeyType, MacType, Type2, Flag, Scheme, WrapScheme, Format, Length, Wrapper, Account, ClearPin, Offset, Validation, ZeroToOne, ZeroToTwo, ZeroToThree, OneOrThree, Count, Data, DataByInput, Mode03Mac, TwoZeros, FfSemicolon, FfType, Mode1Wrapper, Mode1Key, Mode1WrapScheme, Mode23Chain, Component, LastComponent, SetNumber, Act, ActOrAll, Minutes, Word}
use Rattle.hsm_rows.specs.declared.row.Field.{Field}
use Rattle.hsm_rows.specs.Forms.{text_at, last_text, mode_is, is_ff, hex_value, two_digit_value, is_f, hex_or_n, is_n, mac_digits, component_digits, key_by_flag, is_activity, is_activity_or_star, is_minutes, is_set_text, is_word}
use Rattle.hsm_rows.specs.Reading.{Stands, is_left_out}

-- the text stands before some rest, the texts of the earlier fields being given
abbrev pub StandsBefore : Form → List (List ℕ) → List ℕ → Type 0
StandsBefore f earlier t = (rest : List ℕ) × Stands f earlier (t ++ rest) (length t)

-- n decimal digits
abbrev pub AreDigits : ℕ → List ℕ → Type 0
AreDigits n t = (length t ≡ n) × (list_all is_ascii_digit t ≡ true)

-- n hexadecimal digits of either case
abbrev pub AreHexDigits : ℕ → List ℕ → Type 0
AreHexDigits n t = (length t ≡ n) × (list_all is_ascii_hexdigit t ≡ true)

-- one of these texts
abbrev pub IsOneOf : List (List ℕ) → List ℕ → Type 0
IsOneOf [] t = ⊥
IsOneOf (one ∷ others) t = (t ≡ one) ⊎ IsOneOf others t

-- a tag and n hexadecimal digits
pub record IsTagged (tag : List ℕ) (n : ℕ) (t : List ℕ) : Type 0 where
  pub digits : List ℕ
  pub whole : t ≡ tag ++ digits
  pub hexadecimal : AreHexDigits n digits

-- a key text with the tag Z, U or T: one, two or three parts of 16 digits
abbrev pub IsZut : List ℕ → Type 0
IsZut t = IsTagged (codes "Z") 16 t ⊎ (IsTagged (codes "U") 32 t ⊎ IsTagged (codes "T") 48 t)

-- a key text with the tag X or Y: two or three parts
abbrev pub IsXy : List ℕ → Type 0
IsXy t = IsTagged (codes "X") 32 t ⊎ IsTagged (codes "Y") 48 t

-- a key text of the form, by its tag and the number of its digits
abbrev pub IsKeyText : KeyForm → List ℕ → Type 0
IsKeyText key.K t = AreHexDigits 16 t ⊎ IsZut t
IsKeyText key.P t = AreHexDigits 32 t ⊎ IsTagged (codes "U") 32 t
IsKeyText key.W t = AreHexDigits 16 t ⊎ (IsZut t ⊎ IsXy t)
IsKeyText key.F0 t = AreHexDigits 16 t ⊎ IsZut t
IsKeyText key.F1 t = AreHexDigits 32 t ⊎ IsZut t
IsKeyText key.F2 t = IsZut t

-- a key text of two parts
pub record IsPairText (t : List ℕ) : Type 0 where
  pub text : IsKeyText key.P t
  pub parts : scheme_parts (scheme_of t) ≡ 2

-- the code of a key type
abbrev pub IsTypeCode : List ℕ → Type 0
IsTypeCode t = (ty : types.KeyType) × (t ≡ code_of ty)

-- the flag of a wrapping key, or nothing
abbrev pub IsWrapper : List ℕ → Type 0
IsWrapper t = IsOneOf ([] ∷ codes ";0" ∷ codes ";1" ∷ []) t

-- the code of a format of PIN blocks
abbrev pub IsFormat : List ℕ → Type 0
IsFormat t = (t ≡ codes "01") ⊎ ((t ≡ codes "03") ⊎ ((t ≡ codes "05") ⊎ (t ≡ codes "47")))

-- two digits of 04 to 12
pub record IsLength (t : List ℕ) : Type 0 where
  pub text : IsOneOf (codes "04" ∷ codes "05" ∷ codes "06" ∷ codes "07" ∷ codes "08" ∷ codes "09" ∷ codes "10" ∷ codes "11" ∷ codes "12" ∷ []) t
  pub digits : AreDigits 2 t
  pub least : 4 ≤ two_digit_value t
  pub most : two_digit_value t ≤ 12

-- 12 to 19 digits and a semicolon
pub record IsAccount (t : List ℕ) : Type 0 where
  pub least : 13 ≤ length t
  pub most : length t ≤ 20
  pub digits : list_all is_ascii_digit (take (length t - 1) t) ≡ true
  pub last : drop (length t - 1) t ≡ codes ";"

-- twelve characters: k digits, then F to the end
pub record IsFilled (k : ℕ) (t : List ℕ) : Type 0 where
  pub long : length t ≡ 12
  pub digits : list_all is_ascii_digit (take k t) ≡ true
  pub fill : list_all is_f (drop k t) ≡ true

-- twelve characters: 11 hexadecimal digits and one N
pub record IsValidation (t : List ℕ) : Type 0 where
  pub long : length t ≡ 12
  pub characters : list_all hex_or_n t ≡ true
  pub one : count_by is_n t ≡ 1

-- four hexadecimal digits
pub record IsCount (t : List ℕ) : Type 0 where
  pub digits : AreHexDigits 4 t
  pub most : hex_value t < 2 ^ 16

-- n bytes; with input format 1 an even number of hexadecimal digits
pub record IsData (input t : List ℕ) (n : ℕ) : Type 0 where
  pub long : length t ≡ n
  pub digits : bytes_eq input (codes "1") ≡ true → list_all is_ascii_hexdigit t ≡ true
  pub even : bytes_eq input (codes "1") ≡ true → length t % 2 ≡ 0

-- a text that is there only where the condition holds
pub record IsWhere (holds : Bool) (t : List ℕ) (P : Type 0) : Type 0 where
  pub present : holds ≡ true → P
  pub absent : holds ≡ false → t ≡ []

-- a text that is there in these modes only
abbrev pub IsInModes : List ℕ → List (List ℕ) → List ℕ → Type 0 → Type 0
IsInModes modes earlier t P = IsWhere (mode_is modes earlier) t P

-- a text that is there only where an earlier field says FF
abbrev pub IsAfterFf : List ℕ → List ℕ → Type 0 → Type 0
IsAfterFf type_field t P = IsWhere (is_ff type_field) t P

-- what a text of the form is, the texts of the earlier fields being given
abbrev pub IsText : Form → List (List ℕ) → List ℕ → Type 0
IsText Digits1 e t = AreDigits 1 t
IsText Digits3 e t = AreDigits 3 t
IsText Digits4 e t = AreDigits 4 t
IsText Digits12 e t = AreDigits 12 t
IsText Digits16 e t = AreDigits 16 t
IsText Hex16 e t = AreHexDigits 16 t
IsText Key e t = IsKeyText key.K t
IsText Pair e t = IsPairText t
IsText WrappedKey e t = IsKeyText key.W t
IsText (KeyByFlag flag) e t = IsKeyText (key_by_flag (text_at e flag)) t
IsText KeyType e t = IsTypeCode t
IsText MacType e t = IsOneOf (codes "003" ∷ codes "008" ∷ []) t
IsText Type2 e t = IsOneOf (codes "FF" ∷ codes "00" ∷ codes "01" ∷ codes "02" ∷ codes "03" ∷ codes "08" ∷ codes "09" ∷ codes "0A" ∷ codes "0B" ∷ []) t
IsText Flag e t = IsOneOf (codes "0" ∷ codes "1" ∷ codes "2" ∷ []) t
IsText Scheme e t = IsOneOf (codes "Z" ∷ codes "U" ∷ codes "T" ∷ []) t
IsText WrapScheme e t = IsOneOf (codes "Z" ∷ codes "U" ∷ codes "T" ∷ codes "X" ∷ codes "Y" ∷ []) t
IsText Format e t = IsFormat t
IsText Length e t = IsLength t
IsText Wrapper e t = IsWrapper t
IsText Account e t = IsAccount t
IsText ClearPin e t = IsFilled (prefix_len is_ascii_digit t) t
IsText (Offset check) e t = IsFilled (two_digit_value (text_at e check)) t
IsText Validation e t = IsValidation t
IsText ZeroToOne e t = IsOneOf (codes "0" ∷ codes "1" ∷ []) t
IsText ZeroToTwo e t = IsOneOf (codes "0" ∷ codes "1" ∷ codes "2" ∷ []) t
IsText ZeroToThree e t = IsOneOf (codes "0" ∷ codes "1" ∷ codes "2" ∷ codes "3" ∷ []) t
IsText OneOrThree e t = IsOneOf (codes "1" ∷ codes "3" ∷ []) t
IsText Count e t = IsCount t
IsText Data e t = length t ≡ hex_value (last_text e)
IsText (DataByInput input) e t = IsData (text_at e input) t (hex_value (last_text e))
IsText (Mode03Mac mac_size) e t = IsInModes (codes "03") e t (AreHexDigits (mac_digits (text_at e mac_size)) t)
IsText TwoZeros e t = t ≡ codes "00"
IsText (FfSemicolon ty) e t = IsAfterFf (text_at e ty) t (t ≡ codes ";")
IsText (FfType ty) e t = IsAfterFf (text_at e ty) t (IsTypeCode t)
IsText Mode1Wrapper e t = IsInModes (codes "1") e t (IsWrapper t)
IsText Mode1Key e t = IsInModes (codes "1") e t (IsKeyText key.K t)
IsText Mode1WrapScheme e t = IsInModes (codes "1") e t (IsOneOf (codes "Z" ∷ codes "U" ∷ codes "T" ∷ codes "X" ∷ codes "Y" ∷ []) t)
IsText Mode23Chain e t = IsInModes (codes "23") e t (AreHexDigits 16 t)
IsText (Component scheme) e t = AreHexDigits (component_digits (text_at e scheme)) t
IsText (LastComponent scheme) e t = AreHexDigits (component_digits (text_at e scheme)) t
IsText SetNumber e t = is_set_text t ≡ true
IsText Act e t = is_activity t ≡ true
IsText ActOrAll e t = is_activity_or_star t ≡ true
IsText Minutes e t = is_minutes t ≡ true
IsText Word e t = is_word t ≡ true

-- nothing, or a space
abbrev pub EndsWord : List ℕ → Type 0
EndsWord [] = Unit {0}
EndsWord (c ∷ rest) = c ≡ 32

-- no semicolon
abbrev pub HasNoSemicolon : List ℕ → Type 0
HasNoSemicolon [] = Unit {0}
HasNoSemicolon (c ∷ rest) = c ≢ 59

-- What may follow a text of the form: a space or nothing after a word of the console, no semicolon where a flag of a wrapping key is left out, and else anything.
abbrev pub MayFollow : Form → List (List ℕ) → List ℕ → List ℕ → Type 0
MayFollow Wrapper e t rest = t ≡ [] → HasNoSemicolon rest
MayFollow Mode1Wrapper e t rest = mode_is (codes "1") e ≡ true → t ≡ [] → HasNoSemicolon rest
MayFollow Act e t rest = EndsWord rest
MayFollow ActOrAll e t rest = EndsWord rest
MayFollow Minutes e t rest = EndsWord rest
MayFollow Word e t rest = EndsWord rest
MayFollow _ e t rest = Unit {0}

-- a text of the form, or nothing where a field of the form may be left out
abbrev pub IsTextOrAbsent : Form → List (List ℕ) → List ℕ → Type 0
IsTextOrAbsent f e t = IsText f e t ⊎ ((t ≡ []) × ((rest : List ℕ) × (is_left_out f rest ≡ true)))

-- the texts from place k on are so for the forms of these fields, each given the texts before it: for the fields of a row a tuple, one for each field
abbrev pub EachText : (Form → List (List ℕ) → List ℕ → Type 0) → List Field → List (List ℕ) → ℕ → List (List ℕ) → Type 0
EachText P [] earlier k texts = Unit {0}
EachText P (f ∷ fs) earlier k texts = P f.form earlier (text_at texts k) × EachText P fs (earlier ++ text_at texts k ∷ []) (k + 1) texts

-- each text stands
abbrev pub TextsStand : List Field → List (List ℕ) → Type 0
TextsStand fields texts = EachText StandsBefore fields [] 0 texts

-- each text is one of its field's form
abbrev pub AreTexts : List Field → List (List ℕ) → Type 0
AreTexts fields texts = EachText IsText fields [] 0 texts

-- each text is one of its field's form, or is left out
abbrev pub AreTextsOrAbsent : List Field → List (List ℕ) → Type 0
AreTextsOrAbsent fields texts = EachText IsTextOrAbsent fields [] 0 texts
