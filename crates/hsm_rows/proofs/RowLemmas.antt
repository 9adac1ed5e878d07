-- Rows of the table.
use Rattle.std.proofs.Common.{◌≡◌, ℕ, zero, suc, Bool, true, false, ◌&&◌, ◌+◌, ◌<◌, ◌≤◌, List, [], ◌∷◌, ◌++◌, length, Option, Some, None, refl, arith, subst, cond, sym, ap, ◌∙◌, length-append, drop, drop-cons, get_or, map}
use Rattle.std.specs.Prelude.{codes, nat_le, filter, find, IfSome, slice_index_or}
use Rattle.std.specs.List.{AllByRecursion, list_all, Contains, flat_map}
use Rattle.std.specs.Option.{option_map}
use Rattle.std.specs.Borrow.{Bor}
use Rattle.std.proofs.lemmas.Bool.Decides.{nat_tests}
use Rattle.hsm_rows.specs.declared.row.Row.{Row}
use Rattle.hsm_rows.specs.Table.{RowShape, shape_of, shown_shape, term_of, row_with, same_code, host_rows, console_rows, IsHostRow, IsConsoleRow}
use Rattle.hsm_rows.specs.declared.row.Field.{Field}
use Rattle.hsm_rows.specs.declared.row.Public.{Public}
use Rattle.hsm_rows.specs.Texts.{number_text}
use Rattle.hsm_rows.specs.Bounds.{has_few_fields}
use Rattle.hsm_rows.specs.Clear.{is_clear}
use Rattle.hsm_rows.specs.Explain.{explain_text, line, field_line, clear_lines}
use Rattle.hsm_rows.proofs.Within.{and_left, and_right}

pub le_holds : (a b : ℕ) → nat_le a b ≡ true → a ≤ b
le_holds a b h = grind (arith, nat_tests)

-- what holds of each row holds of one of them
pub passes : (test : RowShape → Bool) (rows : List RowShape) (row : RowShape) (k : ℕ) → list_all test rows ≡ true → k < length rows → slice_index_or rows k row ≡ row → test row ≡ true
passes test [] row k h l e = absurd (omega arith)
passes test (x ∷ xs) row zero h l e =
    let P : RowShape → Type 0 = λ y. test y ≡ true in
    subst P e (and_left (test x) (list_all test xs) h)
passes test (x ∷ xs) row (suc k) h l e = passes test xs row k (and_right (test x) (list_all test xs) h) (omega arith) e

-- what follows from a test that each row passes holds of each
pub all_by : (P : RowShape → Type 0) (test : RowShape → Bool) → ((row : RowShape) → test row ≡ true → P row) → (rows : List RowShape) → list_all test rows ≡ true → AllByRecursion P rows
all_by P test holds [] h = tt
all_by P test holds (x ∷ xs) h = (holds x (and_left (test x) (list_all test xs) h), all_by P test holds xs (and_right (test x) (list_all test xs) h))

one_but : (P : RowShape → Type 0) (test : RowShape → Bool) → ((row : RowShape) → test row ≡ false → P row) → (x : RowShape) (xs : List RowShape)
    → (AllByRecursion P (filter test xs) → AllByRecursion P xs) → (passed : Bool) → test x ≡ passed
    → AllByRecursion P (cond passed (x ∷ filter test xs) (filter test xs)) → P x × AllByRecursion P xs
one_but P test other x xs more true is h = (h.0, more h.1)
one_but P test other x xs more false is h = (other x is, more h)

-- what holds of the rows that pass a test, and follows where one doesn't, holds of each
pub all_but : (P : RowShape → Type 0) (test : RowShape → Bool) → ((row : RowShape) → test row ≡ false → P row) → (rows : List RowShape) → AllByRecursion P (filter test rows) → AllByRecursion P rows
all_but P test other [] h = tt
all_but P test other (x ∷ xs) h = one_but P test other x xs (all_but P test other xs) (test x) refl h

further_on : (x : RowShape) (xs : List RowShape) (row : RowShape) → Contains xs row → Contains (x ∷ xs) row
further_on x xs row (k, l, e) = (suc k, omega arith, e)

-- what holds of each row that is one of them holds of each
pub all_of : (P : RowShape → Type 0) (rows : List RowShape) → ((row : RowShape) → Contains rows row → P row) → AllByRecursion P rows
all_of P [] holds = tt
all_of P (x ∷ xs) holds = (holds x (0, omega arith, refl), all_of P xs (λ row there. holds row (further_on x xs row there)))

-- the row that is found is one of them

some_same : (a b : RowShape) → Some a ≡ Some b → a ≡ b
some_same a b h = cc

found_by : (x : RowShape) (xs : List RowShape) (row : RowShape) (b : Bool) (o : Option RowShape) → (o ≡ Some row → Contains xs row) → cond b (Some x) o ≡ Some row → Contains (x ∷ xs) row
found_by x xs row true o more h = (0, omega arith, some_same x row h)
found_by x xs row false o more h = further_on x xs row (more h)

found_in : (test : RowShape → Bool) (rows : List RowShape) (row : RowShape) → find test rows ≡ Some row → Contains rows row
found_in test [] row h = let z : ⊥ = cc in absurd z
found_in test (x ∷ xs) row h = found_by x xs row (test x) (find test xs) (found_in test xs row) h

pub row_found : (code : List ℕ) (rows : List RowShape) (o : Option (Bor Row)) → option_map shown_shape o ≡ row_with code rows → IfSome o (λ r. Contains rows (shape_of r.now))
row_found code rows None h = tt
row_found code rows (Some r) h = found_in (same_code code) rows (shape_of r.now) (sym h)

host_few : list_all has_few_fields host_rows ≡ true
unfolding host_rows
host_few = refl

console_few : list_all has_few_fields console_rows ≡ true
unfolding console_rows
console_few = refl

few_by : (rows : List RowShape) (o : Option (Bor Row)) → list_all has_few_fields rows ≡ true → IfSome o (λ r. Contains rows (shape_of r.now)) → IfSome o (λ r. length r.now.fields.now ≤ 12)
few_by rows None f h = tt
few_by rows (Some r) f (k, l, e) = le_holds (length r.now.fields.now) 12 (passes has_few_fields rows (shape_of r.now) k f l e)

pub host_row_few : (o : Option (Bor Row)) → IfSome o (λ r. IsHostRow (shape_of r.now)) → IfSome o (λ r. length r.now.fields.now ≤ 12)
host_row_few o h = few_by host_rows o host_few h

pub console_row_few : (o : Option (Bor Row)) → IfSome o (λ r. IsConsoleRow (shape_of r.now)) → IfSome o (λ r. length r.now.fields.now ≤ 12)
console_row_few o h = few_by console_rows o console_few h

-- what is printed of a host row is short
abbrev is_short : RowShape → Bool
is_short row = nat_le (length (explain_text row)) 500 && nat_le (length row.terms) 9

host_short : list_all is_short host_rows ≡ true
unfolding explain_text host_rows
host_short = refl

pub record IsShort (row : RowShape) : Type 0 where
  pub text : length (line (row.code ++ (codes " " ++ row.reply))) + (length (flat_map field_line row.fields) + length (clear_lines 1 row.terms)) ≤ 500
  pub terms : length row.terms ≤ 9

explain_length : (row : RowShape) → length (explain_text row) ≡ length (line (row.code ++ (codes " " ++ row.reply))) + (length (flat_map field_line row.fields) + length (clear_lines 1 row.terms))
unfolding explain_text
explain_length row = length-append _ _ ∙ ap (λ n. length (line (row.code ++ (codes " " ++ row.reply))) + n) (length-append _ _)

pub host_row_short : (row : RowShape) → IsHostRow row → IsShort row
host_row_short row (k, l, e) =
    let p = passes is_short host_rows row k host_short l e in
    let n = explain_length row in
    let m = le_holds (length (explain_text row)) 500 (and_left (nat_le (length (explain_text row)) 500) _ p) in
    record {
      text = omega arith;
      terms = le_holds (length row.terms) 9 (and_right (nat_le (length (explain_text row)) 500) _ p);
    }

-- there is room for a piece where there is room for the whole
piece_room : (out piece rest start whole : List ℕ) (n : ℕ) → out ++ (piece ++ rest) ≡ start ++ whole → length start + length whole ≤ n → length out + length piece ≤ n
piece_room out piece rest start whole n e h = omega (arith, simp length-append at (ap length e))

-- there is room for the next field's line
pub field_room : (out start : List ℕ) (fields : List Field) (i : ℕ) (d : Field) → i < length fields
    → out ++ flat_map field_line (drop i fields) ≡ start ++ flat_map field_line fields
    → length start + length (flat_map field_line fields) ≤ 65535 → length out + length (field_line (get_or fields i d)) ≤ 65535
field_room out start fields i d h e m =
    piece_room out (field_line (get_or fields i d)) (flat_map field_line (drop (suc i) fields)) start (flat_map field_line fields) 65535 (rw (drop-cons fields i d h) at e) m

-- and for the line of the next reply field, where it shows a secret
pub clear_room : (out start : List ℕ) (first place : ℕ) (terms : List Public) (i : ℕ) (d : Public) → i < length terms
    → out ++ clear_lines place (map term_of (drop i terms)) ≡ start ++ clear_lines first (map term_of terms)
    → length start + length (clear_lines first (map term_of terms)) ≤ 65535 → is_clear (term_of (get_or terms i d)) ≡ true
    → length out + (7 + length (number_text place)) ≤ 65535
clear_room out start first place terms i d h e m s =
    let w = rw (drop-cons terms i d h) at e in
    let v = rw s at w in
    omega (arith, simp length-append at (ap length v))
