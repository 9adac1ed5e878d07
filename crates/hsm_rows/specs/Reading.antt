-- How a message's text is read by a row.
use Rattle.std.specs.Prelude.{◌≡◌, ℕ, Bool, true, false, ◌&&◌, ◌||◌, ◌⊎◌, ◌+◌, ◌==◌, nat_eq, nat_le, if◌then◌else◌, List, [], ◌∷◌, ◌++◌, length, take, drop, map, Option, Some, None, Result, Ok, Err, codes, slice_range}
use Rattle.std.specs.List.{starts_with}
use Rattle.hsm_rows.specs.declared.row.Form.{Form}
use Rattle.hsm_rows.specs.declared.row.Form.TheVariants.{LastComponent, SetNumber}
use Rattle.hsm_rows.specs.declared.row.Field.{Field}
use Rattle.hsm_rows.specs.declared.row.Code.{Code}
use Rattle.hsm_rows.specs.declared.read.Spot.{Spot}
use Rattle.hsm_rows.specs.declared.read.Fields.{Fields}
use Rattle.hsm_rows.specs.Forms.{size, shown, last_text, is_set_text, set_number}
use Rattle.hsm_rows.specs.Table.{RowShape}

-- the first n bytes of rest are a text of the form
abbrev pub Stands : Form → List (List ℕ) → List ℕ → ℕ → Type 0
Stands f earlier rest n = size f earlier rest ≡ Some n

-- nothing is left, or a text is absent
abbrev pub is_end : List ℕ → Bool
is_end [] = true
is_end (c ∷ cs) = false

-- whether a console field of the form is left out before what is left
abbrev pub is_left_out : Form → List ℕ → Bool
is_left_out (LastComponent scheme) rest = is_end rest || starts_with nat_eq rest (codes " %")
is_left_out SetNumber rest = is_end rest
is_left_out _ rest = false

-- the rest is empty, or the byte 19 (hex) and at most 32 bytes
unfoldable pub is_trailer : List ℕ → Bool
is_trailer rest = is_end rest || (starts_with nat_eq rest (0x19 ∷ []) && nat_le (length rest) 33)

-- the text of a set at the front of what follows the fields, or nothing
unfoldable pub set_text_of : List ℕ → List ℕ
set_text_of rest = if is_set_text (take 3 rest) then take 3 rest else []

-- what follows it
unfoldable pub behind_set : List ℕ → List ℕ
behind_set rest = if is_set_text (take 3 rest) then drop 3 rest else rest

-- what follows the fields is nothing, or in a host row the text of a set or none, and a trailer
unfoldable pub is_ending : Bool → List ℕ → Bool
is_ending true rest = is_end rest
is_ending false rest = is_trailer (behind_set rest)

-- a row without a reply code is the console's
abbrev pub is_console : RowShape → Bool
is_console row = is_end row.reply

-- a field's text t with what stands before it: nothing in a host row; in a console row one space, but nothing before a field that is left out
pub data Placed (f : Form) (earlier : List (List ℕ)) : Bool → List ℕ → List ℕ → List ℕ → Type 0 where
  in_host : {t rest : List ℕ} → Stands f earlier (t ++ rest) (length t) → Placed f earlier false [] t rest
  in_console : {t rest : List ℕ} → is_end t ≡ false → Stands f earlier (t ++ rest) (length t) → Placed f earlier true (codes " ") t rest
  left_out : {rest : List ℕ} → is_left_out f rest ≡ true → Placed f earlier true [] [] rest

-- the text is the texts of the fields one after another, and what follows them; the texts of the fields before them are given
pub data Reads (console : Bool) : List Field → List (List ℕ) → List ℕ → List (List ℕ) → List ℕ → Type 0 where
  at_end : {earlier : List (List ℕ)} {ending : List ℕ} → Reads console [] earlier ending [] ending
  one_more : {f : Field} {fs : List Field} {earlier texts : List (List ℕ)} {space t rest ending : List ℕ}
      → Placed f.form earlier console space t rest
      → Reads console fs (earlier ++ t ∷ []) rest texts ending
      → Reads console (f ∷ fs) earlier (space ++ (t ++ rest)) (t ∷ texts) ending

-- no text of the form stands at the front
abbrev pub NoneStands : Bool → Form → List (List ℕ) → List ℕ → Type 0
NoneStands console f earlier text = (space t rest : List ℕ) → Placed f earlier console space t rest → space ++ (t ++ rest) ≡ text → ⊥

-- the text is refused with the code of the first field of which no text stands, or with 15 where what follows the fields is no text of a set and no trailer
pub data Refused (console : Bool) : List Field → List (List ℕ) → List ℕ → Code → Type 0 where
  no_ending : {earlier : List (List ℕ)} {rest : List ℕ} → is_ending console rest ≡ false → Refused console [] earlier rest (record { 0 = 15 })
  no_text : {f : Field} {fs : List Field} {earlier : List (List ℕ)} {text : List ℕ}
      → NoneStands console f.form earlier text
      → Refused console (f ∷ fs) earlier text f.code
  further : {f : Field} {fs : List Field} {earlier : List (List ℕ)} {space t rest : List ℕ} {code : Code}
      → Placed f.form earlier console space t rest
      → Refused console fs (earlier ++ t ∷ []) rest code
      → Refused console (f ∷ fs) earlier (space ++ (t ++ rest)) code

-- what is read: the texts of the fields, the number of the LMK set, and the trailer
pub record ReadText : Type 0 where
  pub texts : List (List ℕ)
  pub set : ℕ
  pub trailer : List ℕ

-- what the code keeps of it
abbrev pub read_text_of : Fields → ReadText
read_text_of f = record { texts = map shown f.texts.items; set = f.set; trailer = f.trailer.now }

-- whether the form is `[%nn]`
abbrev pub is_set_form : Form → Bool
is_set_form SetNumber = true
is_set_form _ = false

-- whether the last field is `[%nn]`
abbrev pub ends_with_set : List Field → Bool
ends_with_set [] = false
ends_with_set (f ∷ []) = is_set_form f.form
ends_with_set (f ∷ g ∷ more) = ends_with_set (g ∷ more)

-- the text that names the set: the last field's where that is `[%nn]`, else the one that follows the fields
abbrev pub naming : List Field → List (List ℕ) → List ℕ → List ℕ
naming fields texts following = if ends_with_set fields then last_text texts else following

-- what follows the fields: in a host row the text of a set or none, and a trailer; in a console row nothing
abbrev pub IsEnding : Bool → List ℕ → List ℕ → Type 0
IsEnding true following trailer = (following ≡ []) × (trailer ≡ [])
IsEnding false following trailer = ((following ≡ []) ⊎ (is_set_text following ≡ true)) × (is_trailer trailer ≡ true)

-- the row reads the text so: the fields, the text of a set, and the trailer; the set is the one that is named, and 0 where none is
pub record RowReads (row : RowShape) (text : List ℕ) (r : ReadText) : Type 0 where
  pub following : List ℕ
  pub fields : Reads (is_console row) row.fields [] text r.texts (following ++ r.trailer)
  pub ending : IsEnding (is_console row) following r.trailer
  pub set : r.set ≡ set_number (naming row.fields r.texts following)

-- the row refuses the text with the code
abbrev pub RowRefuses : RowShape → List ℕ → Code → Type 0
RowRefuses row text code = Refused (is_console row) row.fields [] text code

-- from the byte `from` to the byte `to`, where the size is known
abbrev pub spot : ℕ → Option ℕ → Option Spot
spot from None = None
spot from (Some n) = Some (record { from = from; to = from + n })

-- the size of a text that isn't empty
abbrev pub present : Option ℕ → Option ℕ
present None = None
present (Some n) = if n == 0 then None else Some n

-- where a field's text lies in what is left
unfoldable pub spot_of : Bool → Form → List (List ℕ) → List ℕ → Option Spot
spot_of false f earlier rest = spot 0 (size f earlier rest)
spot_of true f earlier rest =
    if is_left_out f rest then Some (record { from = 0; to = 0 })
    else if starts_with nat_eq rest (codes " ") then spot 1 (present (size f earlier (drop 1 rest)))
    else None

-- the texts of the fields, and what follows them
pub record FieldTexts : Type 0 where
  pub texts : List (List ℕ)
  pub ending : List ℕ

-- what is read of the rest of a message by the fields that are left
unfoldable pub read_on : Bool → List Field → List (List ℕ) → List ℕ → Result FieldTexts Code
read_on console [] earlier rest =
    if is_ending console rest then Ok (record { texts = earlier; ending = rest }) else Err (record { 0 = 15 })
read_on console (f ∷ fs) earlier rest =
    elim (spot_of console f.form earlier rest) [
      | None ↦ Err f.code
      | Some s ↦ read_on console fs (earlier ++ slice_range rest s.from s.to ∷ []) (drop s.to rest)
    ]

-- what is read where the fields are read so
abbrev pub with_set : RowShape → FieldTexts → ReadText
with_set row read = record { texts = read.texts; set = set_number (naming row.fields read.texts (set_text_of read.ending)); trailer = behind_set read.ending }

-- the same of what the fields come to
abbrev pub whole_reading : RowShape → Result FieldTexts Code → Result ReadText Code
whole_reading row (Err code) = Err code
whole_reading row (Ok read) = Ok (with_set row read)

-- what a message's text reads to by a row, or the code that refuses it
abbrev pub reading : RowShape → List ℕ → Result ReadText Code
reading row text = whole_reading row (read_on (is_console row) row.fields [] text)
