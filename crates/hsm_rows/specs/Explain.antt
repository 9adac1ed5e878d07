-- How a row is printed for a user.
use Rattle.std.specs.Prelude.{ℕ, ◌+◌, if◌then◌else◌, List, [], ◌∷◌, ◌++◌, codes}
use Rattle.std.specs.List.{flat_map}
use Rattle.hsm_rows.specs.declared.row.Field.{Field}
use Rattle.hsm_rows.specs.Table.{RowShape, Term}
use Rattle.hsm_rows.specs.Texts.{form_text, number_text, two_digits}
use Rattle.hsm_rows.specs.Clear.{is_clear}

-- a line: the text and the byte 0A (hex)
abbrev pub line : List ℕ → List ℕ
line text = text ++ 0x0A ∷ []

-- a field's line: its form, a space and its code
abbrev pub field_line : Field → List ℕ
field_line f = line (form_text f.form ++ (codes " " ++ two_digits f.code.0))

-- a line for each reply field that shows a clear key or PIN: `clear` and its place, the first field being at this place
abbrev pub clear_lines : ℕ → List Term → List ℕ
clear_lines place [] = []
clear_lines place (t ∷ ts) = (if is_clear t then line (codes "clear " ++ number_text place) else []) ++ clear_lines (place + 1) ts

-- the row's lines: its code and reply code, its fields, and its clear reply fields with their places counted from 1
unfoldable pub explain_text : RowShape → List ℕ
explain_text row = line (row.code ++ (codes " " ++ row.reply)) ++ (flat_map field_line row.fields ++ clear_lines 1 row.terms)
