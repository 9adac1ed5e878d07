-- The room that a reply takes.
use Rattle.std.proofs.Common.{◌≡◌, ℕ, ◌+◌, ◌*◌, ◌≤◌, Bool, true, false, List, [], ◌∷◌, ◌++◌, length, refl, ap, arith, inl, inr, length-append}
use Rattle.std.specs.Prelude.{◌==◌, if◌then◌else◌, nat_le}
use Rattle.std.proofs.lemmas.Bool.{and_parts}
use Rattle.std.proofs.lemmas.Bool.Decides.{nat_tests}
use Rattle.hsm_rows.specs.declared.row.Field.{Field}
use Rattle.hsm_rows.specs.declared.row.Public.{Public}
use Rattle.hsm_rows.specs.declared.row.Public.TheVariants as public
use Rattle.hsm_rows.specs.Forms.{text_at}
use Rattle.hsm_rows.specs.Table.{RowShape, Term, plain_text, term}
use Rattle.hsm_rows.specs.Reading.{ReadText, Reads, at_end, one_more, RowReads, is_console}
use Rattle.hsm_answers.specs.Keys.{field_text}
use Rattle.hsm_commands.specs.Demands.{term_room, terms_room}
use Rattle.hsm_commands.specs.Plans.{AreRead, FitsText, echoes}
use Rattle.hsm_commands.specs.Fit.{is_brief, is_count, is_short, are_short, echoes_second, room_fits}
use Rattle.hsm_commands.proofs.FormLaws.{text_is, IsBrief, brief_means, count_means}

-- the length of all texts
whole : List (List ℕ) → ℕ
whole [] = 0
whole (t ∷ ts) = length t + whole ts

reads_within : (console : Bool) (fields : List Field) (earlier : List (List ℕ)) (text : List ℕ) (texts : List (List ℕ)) (ending : List ℕ)
    → Reads console fields earlier text texts ending
    → whole texts + length ending ≤ length text
unfolding whole
reads_within console fields earlier text texts ending at_end = omega arith
reads_within console fields earlier text texts ending
    (one_more {fs = fs} {earlier = before} {texts = more} {space = space} {t = t} {rest = rest} {ending = tail} placed reads) =
    let h = reads_within console fs (before ++ t ∷ []) rest more tail reads in
    omega (arith, length-append space (t ++ rest), length-append t rest)

two_texts : (texts : List (List ℕ)) → length (text_at texts 0) + length (text_at texts 1) ≤ whole texts
unfolding whole
two_texts [] = omega arith
two_texts (a ∷ []) = omega arith
two_texts (a ∷ b ∷ more) = let h : length a + length b ≤ length a + (length b + whole more) = omega arith in h

-- the first two texts and the trailer
pub within : (row : RowShape) (text : List ℕ) (r : ReadText) → RowReads row text r
    → length (field_text r 0) + length (field_text r 1) + length r.trailer ≤ length text
within row text r h =
    omega (arith, two_texts r.texts, reads_within (is_console row) row.fields [] text r.texts (h.following ++ r.trailer) h.fields, length-append h.following r.trailer)

-- ---- reply fields

at_most : (a b : ℕ) → nat_le a b ≡ true → a ≤ b
at_most a b h = grind (arith, nat_tests)

module _ (fs : List Field) (r : ReadText) (texts : AreRead fs r.texts) where
  public_room : (t : Public) → is_short fs (term t) ≡ true → term_room r (term t) ≤ 4000
  public_room (public.Given k) h = let brief : length (text_at r.texts k) ≤ 600 = text_is is_brief IsBrief brief_means fs r.texts k texts h in omega (arith, brief)
  public_room _ h = omega arith

  room_of : (t : Term) → is_short fs t ≡ true → term_room r t ≤ 4000
  room_of (plain_text t) h = omega (arith, at_most (length t) 600 h)
  room_of (term t) h = public_room t h

  rooms_of : (ts : List Term) → are_short fs ts ≡ true → terms_room r ts ≤ 4001 * length ts
  rooms_of [] h = omega arith
  rooms_of (t ∷ ts) h =
      let p = and_parts (is_short fs t) (are_short fs ts) h in
      omega (arith, room_of t p.0, rooms_of ts p.1)

same_number : (a b : ℕ) → (a == b) ≡ true → a ≡ b
same_number a b h = grind (arith, nat_tests)

-- the second text, after a count of four digits
echo_room : (fs : List Field) (ts : List Term) (r : ReadText) → AreRead fs r.texts → echoes_second fs ts ≡ true
    → (length (field_text r 0) ≡ 4 → 3 + terms_room r ts ≤ length (field_text r 0) + length (field_text r 1))
    × (length (field_text r 0) ≡ 4)
echo_room (a ∷ b ∷ []) (term (public.Given k) ∷ []) r texts h =
    let p = and_parts (is_count a.form) (k == 1) h in
    let four : length (field_text r 0) ≡ 4 = count_means a.form [] (field_text r 0) p.0 texts.0 in
    let one : k ≡ 1 = same_number k 1 p.1 in
    let same : length (field_text r k) ≡ length (field_text r 1) = ap (λ (i : ℕ). length (field_text r i)) one in
    ((λ e. omega (arith, same, e)), four)
echo_room _ _ r texts h = let z : ⊥ = cc in absurd z

room_by : (row : RowShape) (text : List ℕ) (r : ReadText) (echo : Bool) → echoes row.terms ≡ echo → length row.terms ≤ 9 → AreRead row.fields r.texts → RowReads row text r
    → (if echo then echoes_second row.fields row.terms else are_short row.fields row.terms) ≡ true → FitsText (echoes row.terms) (terms_room r row.terms) text r.trailer
room_by row text r false e few texts reads h = inl (omega (arith, rooms_of row.fields r texts row.terms h))
room_by row text r true e few texts reads h =
    let p = echo_room row.fields row.terms r texts h in
    inr (e, omega (arith, p.0 p.1, p.1, within row text r reads))

-- there is room for the reply fields of a row whose rules fit its forms
pub room_is : (row : RowShape) (text : List ℕ) (r : ReadText) → length row.terms ≤ 9 → AreRead row.fields r.texts → RowReads row text r → room_fits row.fields row.terms ≡ true
    → FitsText (echoes row.terms) (terms_room r row.terms) text r.trailer
room_is row text r few texts reads h = room_by row text r (echoes row.terms) refl few texts reads h
