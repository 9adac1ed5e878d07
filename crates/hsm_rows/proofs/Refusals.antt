-- Which texts are refused, and with which code; and what the two outcomes of reading mean.
use Rattle.std.proofs.Common.{◌≡◌, ℕ, Bool, true, false, ◌&&◌, List, [], ◌∷◌, ◌++◌, length, take, drop, Option, Some, None, Ok, Err, refl, ap, ap₂, ◌∙◌, sym, subst, cond, ◌⊎◌, inl, inr, arith, take-append-drop}
use Rattle.std.specs.Prelude.{Result, ◌↔◌, nat_eq, if◌then◌else◌}
use Rattle.std.specs.Char.{is_ascii_digit}
use Rattle.std.proofs.lemmas.Bool.Decides.{nat_tests}
use Rattle.std.proofs.Math.Seq.{drop-append_seam}
use Rattle.hsm_rows.specs.declared.row.Field.{Field}
use Rattle.hsm_rows.specs.declared.row.Form.{Form}
use Rattle.hsm_rows.specs.declared.row.Code.{Code}
use Rattle.hsm_rows.specs.declared.read.Spot.{Spot}
use Rattle.hsm_rows.specs.Table.{RowShape}
use Rattle.hsm_rows.specs.Forms.{is_set_text, set_number}
use Rattle.hsm_rows.specs.Reading.{read_on, reading, spot_of, FieldTexts, ReadText, is_end, is_trailer, is_ending, set_text_of, behind_set, IsEnding, naming, with_set, whole_reading, is_console, Reads, NoneStands, Refused, no_ending, no_text, further, RowReads, RowRefuses}
use Rattle.hsm_rows.proofs.Within.{and_left, set_long}
use Rattle.hsm_rows.proofs.TextForms.{front}
use Rattle.hsm_rows.proofs.ReadSteps.{read_none, read_end_bad}
use Rattle.hsm_rows.proofs.ReadLaw.{placed_spot, read_placed, read_law}
use Rattle.hsm_rows.proofs.ReadBack.{found, read_found, read_back}

-- no text stands where none is found
none_stands : (c : Bool) (f : Form) (e : List (List ℕ)) (text : List ℕ) → spot_of c f e text ≡ None → NoneStands c f e text
none_stands c f e text h s t rest p w =
    let k = placed_spot f e c s t rest p in
    let k' = ap (λ (x : List ℕ). spot_of c f e x) w in
    cc

-- and where one is found one stands
none_found : (c : Bool) (f : Form) (e : List (List ℕ)) (text : List ℕ) → NoneStands c f e text → (o : Option Spot) → spot_of c f e text ≡ o → spot_of c f e text ≡ None
none_found c f e text n None h = h
none_found c f e text n (Some s) h = let F = found c f e text s h in absurd (n F.space F.t F.rest F.placed F.whole)

err_same : (a b : Code) → ◌≡◌ {A = Result FieldTexts Code} (Err a) (Err b) → a ≡ b
err_same a b h = cc

end_by : (c : Bool) (e : List (List ℕ)) (text : List ℕ) (code : Code) (b : Bool) → is_ending c text ≡ b
    → cond {A = Result FieldTexts Code} b (Ok (record { texts = e; ending = text })) (Err (record { 0 = 15 })) ≡ Err code → Refused c [] e text code
end_by c e text code true k h = let z : ⊥ = cc in absurd z
end_by c e text code false k h =
    let P : Code → Type 0 = λ x. Refused c [] e text x in
    subst P (err_same (record { 0 = 15 }) code h) (no_ending k)

refused_by : (c : Bool) (f : Field) (fs : List Field) (e : List (List ℕ)) (text : List ℕ) (code : Code) → read_on c (f ∷ fs) e text ≡ Err code
    → ((e' : List (List ℕ)) (text' : List ℕ) → read_on c fs e' text' ≡ Err code → Refused c fs e' text' code)
    → (o : Option Spot) → spot_of c f.form e text ≡ o → Refused c (f ∷ fs) e text code
refused_by c f fs e text code h more None k =
    let P : Code → Type 0 = λ x. Refused c (f ∷ fs) e text x in
    subst P (err_same f.code code (sym (read_none c f fs e text k) ∙ h)) (no_text (none_stands c f.form e text k))
refused_by c f fs e text code h more (Some s) k =
    let F = found c f.form e text s k in
    let R : List ℕ → Type 0 = λ x. Refused c (f ∷ fs) e x code in
    subst R F.whole (further F.placed (more (e ++ F.t ∷ []) F.rest (sym (read_found c f fs e text s k F) ∙ h)))

-- what isn't read is refused with the code
pub refused_back : (c : Bool) (fs : List Field) (e : List (List ℕ)) (text : List ℕ) (code : Code) → read_on c fs e text ≡ Err code → Refused c fs e text code
unfolding read_on
refused_back c [] e text code h = end_by c e text code (is_ending c text) refl h
refused_back c (f ∷ fs) e text code h = refused_by c f fs e text code h (λ e' text' h'. refused_back c fs e' text' code h') (spot_of c f.form e text) refl

-- what is refused isn't read
pub refused_law : (c : Bool) (fs : List Field) (e : List (List ℕ)) (text : List ℕ) (code : Code) → Refused c fs e text code → read_on c fs e text ≡ Err code
refused_law c fs e text code (no_ending h) = read_end_bad c e text h
refused_law c fs e text code (no_text {f} {fs = more} n) = read_none c f more e text (none_found c f.form e text n (spot_of c f.form e text) refl)
refused_law c fs e text code (further {f} {fs = more} {space} {t} {rest} p r) = read_placed c f more e space t rest p ∙ refused_law c more (e ++ t ∷ []) rest code r

-- ---- what follows the fields

-- the text of a set or nothing, and what is behind it
ending_parts : (rest : List ℕ) → set_text_of rest ++ behind_set rest ≡ rest
unfolding set_text_of behind_set
ending_parts rest = parts_by (is_set_text (take 3 rest)) where
  parts_by : (b : Bool) → cond b (take 3 rest) [] ++ cond b (drop 3 rest) rest ≡ rest
  parts_by true = take-append-drop 3 rest
  parts_by false = refl

set_or_none : (rest : List ℕ) → (set_text_of rest ≡ []) ⊎ (is_set_text (set_text_of rest) ≡ true)
unfolding set_text_of
set_or_none rest = by (is_set_text (take 3 rest)) refl where
  by : (b : Bool) → is_set_text (take 3 rest) ≡ b → (cond b (take 3 rest) [] ≡ []) ⊎ (is_set_text (cond b (take 3 rest) []) ≡ true)
  by true h = inr h
  by false h = inl refl

end_empty : (rest : List ℕ) → is_end rest ≡ true → rest ≡ []
end_empty [] h = refl
end_empty (c ∷ cs) h = let z : ⊥ = cc in absurd z

none_named : set_text_of [] ≡ []
unfolding set_text_of is_set_text
none_named = refl

none_behind : behind_set [] ≡ []
unfolding behind_set is_set_text
none_behind = refl

ends_so : (c : Bool) (rest : List ℕ) → is_ending c rest ≡ true → IsEnding c (set_text_of rest) (behind_set rest)
unfolding is_ending
ends_so true rest h = subst (λ (x : List ℕ). (set_text_of x ≡ []) × (behind_set x ≡ [])) (sym (end_empty rest h)) (none_named, none_behind)
ends_so false rest h = (set_or_none rest, h)

no_set_text : (x : ℕ) (b : Bool) → (nat_eq 25 x && b) ≡ true → (y : Bool) → (nat_eq 37 x && y) ≡ false
no_set_text x b h y = let e = and_left (nat_eq 25 x) b h in grind (arith, nat_tests)

-- a trailer does not begin with the text of a set
trailer_names_none : (trailer : List ℕ) → is_trailer trailer ≡ true → is_set_text (take 3 trailer) ≡ false
unfolding is_trailer is_set_text
trailer_names_none [] h = refl
trailer_names_none (a ∷ []) h = refl
trailer_names_none (a ∷ b ∷ []) h = refl
trailer_names_none (a ∷ b ∷ c ∷ more) h = no_set_text a true (and_left (nat_eq 25 a && true) _ h) (is_ascii_digit b && is_ascii_digit c)

-- what follows the fields has just these parts
parts_are : (following trailer : List ℕ) → (following ≡ []) ⊎ (is_set_text following ≡ true) → is_trailer trailer ≡ true
    → (set_text_of (following ++ trailer) ≡ following) × (behind_set (following ++ trailer) ≡ trailer)
unfolding set_text_of behind_set
parts_are following trailer (inl e) h =
    subst (λ (x : List ℕ). ((if is_set_text (take 3 (x ++ trailer)) then take 3 (x ++ trailer) else []) ≡ x) × ((if is_set_text (take 3 (x ++ trailer)) then drop 3 (x ++ trailer) else x ++ trailer) ≡ trailer)) (sym e)
    (ap (λ (b : Bool). if b then take 3 trailer else []) (trailer_names_none trailer h), ap (λ (b : Bool). if b then drop 3 trailer else trailer) (trailer_names_none trailer h))
parts_are following trailer (inr e) h =
    let n : 3 ≡ length following = sym (set_long following e) in
    let fore : take 3 (following ++ trailer) ≡ following = front following trailer 3 n in
    let aft : drop 3 (following ++ trailer) ≡ trailer = ap (λ (k : ℕ). drop k (following ++ trailer)) n ∙ drop-append_seam following trailer in
    let named : is_set_text (take 3 (following ++ trailer)) ≡ true = ap is_set_text fore ∙ e in (
      ap (λ (b : Bool). if b then take 3 (following ++ trailer) else []) named ∙ fore,
      ap (λ (b : Bool). if b then drop 3 (following ++ trailer) else following ++ trailer) named ∙ aft,
    )

-- what follows the fields of a row that reads a text, and its parts
record EndsSo (c : Bool) (following trailer : List ℕ) : Type 0 where
  good : is_ending c (following ++ trailer) ≡ true
  named : set_text_of (following ++ trailer) ≡ following
  behind : behind_set (following ++ trailer) ≡ trailer

nothing_ends : EndsSo true [] []
unfolding is_ending set_text_of behind_set is_set_text
nothing_ends = record { good = refl; named = refl; behind = refl }

ends_back : (c : Bool) (following trailer : List ℕ) → IsEnding c following trailer → EndsSo c following trailer
unfolding is_ending
ends_back true following trailer h =
    subst (λ (x : List ℕ). EndsSo true x trailer) (sym h.0) (subst (λ (y : List ℕ). EndsSo true [] y) (sym h.1) nothing_ends)
ends_back false following trailer h =
    let p = parts_are following trailer h.0 h.1 in
    record { good = ap is_trailer p.1 ∙ h.1; named = p.0; behind = p.1 }

-- the reading of a row, as the relation has it
read_ok : (row : RowShape) (read : Result FieldTexts Code) (r : ReadText) → whole_reading row read ≡ Ok r → (f : FieldTexts) × (read ≡ Ok f) × (with_set row f ≡ r)
read_ok row (Err code) r h = let z : ⊥ = cc in absurd z
read_ok row (Ok f) r h = (f, refl, cc)

read_err : (row : RowShape) (read : Result FieldTexts Code) (code : Code) → whole_reading row read ≡ Err code → read ≡ Err code
read_err row (Err own) code h = let e : own ≡ code = cc in ap Err e
read_err row (Ok f) code h = let z : ⊥ = cc in absurd z

-- what is read where the fields are read so, and what follows them has these parts
pub whole_read : (row : RowShape) (text : List ℕ) (texts : List (List ℕ)) (rest following trailer : List ℕ) (n : ℕ)
    → read_on (is_console row) row.fields [] text ≡ Ok (record { texts = texts; ending = rest })
    → following ≡ set_text_of rest → trailer ≡ behind_set rest → n ≡ set_number (naming row.fields texts following)
    → reading row text ≡ Ok (record { texts = texts; set = n; trailer = trailer })
whole_read row text texts rest following trailer n read f t s =
    let named = ap (λ (x : List ℕ). set_number (naming row.fields texts x)) (sym f) ∙ sym s in
    ap (whole_reading row) read ∙ (λ i. Ok (record { texts = texts; set = named i; trailer = sym t i }))

pub row_reads : (row : RowShape) (text : List ℕ) (r : ReadText) → reading row text ≡ Ok r → RowReads row text r
row_reads row text r h =
    let f = read_ok row (read_on (is_console row) row.fields [] text) r h in
    let b = read_back (is_console row) row.fields [] text f.0 f.1 in
    let P : List (List ℕ) → Type 0 = λ ts. Reads (is_console row) row.fields [] text ts f.0.ending in
    let Q : List ℕ → Type 0 = λ x. Reads (is_console row) row.fields [] text f.0.texts x in
    let R : ReadText → Type 0 = λ x. RowReads row text x in
    subst R f.2 (record {
      following = set_text_of f.0.ending;
      fields = subst Q (sym (ending_parts f.0.ending)) (subst P (sym b.texts_are) b.reads);
      ending = ends_so (is_console row) f.0.ending b.ends;
      set = refl;
    })

pub row_refuses : (row : RowShape) (text : List ℕ) (code : Code) → reading row text ≡ Err code → RowRefuses row text code
row_refuses row text code h = refused_back (is_console row) row.fields [] text code (read_err row (read_on (is_console row) row.fields [] text) code h)

reads_back : (row : RowShape) (text : List ℕ) (r : ReadText) → RowReads row text r → reading row text ≡ Ok r
reads_back row text r h =
    let e = ends_back (is_console row) h.following r.trailer h.ending in
    let f : FieldTexts = record { texts = r.texts; ending = h.following ++ r.trailer } in
    ap (whole_reading row) (read_law (is_console row) row.fields [] r.texts text (h.following ++ r.trailer) h.fields e.good)
    ∙ ap Ok (ap₂ (λ (named behind : List ℕ). record { texts = r.texts; set = set_number (naming row.fields r.texts named); trailer = behind }) e.named e.behind
    ∙ ap (λ (n : ℕ). record { texts = r.texts; set = n; trailer = r.trailer }) (sym h.set))

pub reads_exactly : (row : RowShape) (text : List ℕ) (r : ReadText) → (reading row text ≡ Ok r) ↔ RowReads row text r
reads_exactly row text r = (row_reads row text r, reads_back row text r)

pub refuses_exactly : (row : RowShape) (text : List ℕ) (code : Code) → (reading row text ≡ Err code) ↔ RowRefuses row text code
refuses_exactly row text code = (row_refuses row text code, λ h. ap (whole_reading row) (refused_law (is_console row) row.fields [] text code h))
