-- The texts of a reading stand in the message at their places.
use Rattle.std.proofs.Common.{◌≡◌, ℕ, zero, suc, Bool, ◌+◌, ◌-◌, ◌<◌, List, [], ◌∷◌, ◌++◌, length, take, drop, refl, ap, ◌∙◌, sym, slice_range, arith}
use Rattle.std.proofs.lemmas.List.Sums.{sum_by-cons}
use Rattle.std.proofs.Math.Seq.{take-append_seam, drop-append_seam, drop-append-add}
use Rattle.hsm_rows.specs.declared.row.Field.{Field}
use Rattle.hsm_rows.specs.declared.row.Form.{Form}
use Rattle.hsm_rows.specs.Table.{RowShape}
use Rattle.hsm_rows.specs.Forms.{text_at}
use Rattle.hsm_rows.specs.Reading.{ReadText, RowReads, is_console, Reads, at_end, one_more, Placed, in_host, in_console, left_out}
use Rattle.hsm_rows.specs.Places.{spaces, room, whole_room, start_of, InPlace}

-- the spaces before a placed text
space_length : (f : Form) (e : List (List ℕ)) (c : Bool) (s t rest : List ℕ) → Placed f e c s t rest → length s ≡ spaces c t
space_length f e c s t rest (in_host h) = refl
space_length f e c s t rest (in_console p h) = rw p
space_length f e c s t rest (left_out h) = refl

slice_front : (s t rest : List ℕ) (n : ℕ) → length s ≡ n → t ≡ slice_range (s ++ (t ++ rest)) n (n + length t)
slice_front s t rest n h =
    let k : (n + length t) - n ≡ length t = omega arith in
    let P : drop n (s ++ (t ++ rest)) ≡ t ++ rest = ap (λ (x : ℕ). drop x (s ++ (t ++ rest))) (sym h) ∙ drop-append_seam s (t ++ rest) in
    rw (k, P) (sym (take-append_seam t rest))

drop_behind : (s t rest : List ℕ) (n a : ℕ) → length s + length t ≡ n → drop (n + a) (s ++ (t ++ rest)) ≡ drop a rest
drop_behind s t rest n a h =
    let k : n + a ≡ length s + (length t + a) = omega arith in
    ap (λ (x : ℕ). drop x (s ++ (t ++ rest))) k ∙ (drop-append-add s (t ++ rest) (length t + a) ∙ drop-append-add t rest a)

slice_behind : (s t rest : List ℕ) (n a i b : ℕ) → length s + length t ≡ n → i ≡ n + a → slice_range (s ++ (t ++ rest)) i (i + b) ≡ slice_range rest a (a + b)
slice_behind s t rest n a i b h e =
    let k : (i + b) - i ≡ (a + b) - a = omega arith in
    ap (λ (x : ℕ). take x (drop i (s ++ (t ++ rest)))) k
    ∙ ap (λ (x : List ℕ). take ((a + b) - a) x) (ap (λ (x : ℕ). drop x (s ++ (t ++ rest))) e ∙ drop_behind s t rest n a h)

-- the slice of text k
abbrev At : Bool → List ℕ → List (List ℕ) → ℕ → Type 0
At c message ts k = text_at ts k ≡ slice_range message (start_of c ts k) (start_of c ts k + length (text_at ts k))

text_step : (c : Bool) (s t rest : List ℕ) (ts : List (List ℕ)) → length s ≡ spaces c t → ((k : ℕ) → k < length ts → At c rest ts k) → (k : ℕ) → k < length (t ∷ ts) → At c (s ++ (t ++ rest)) (t ∷ ts) k
text_step c s t rest ts h more zero l = slice_front s t rest (start_of c (t ∷ ts) 0) (h ∙ omega arith)
text_step c s t rest ts h more (suc k) l =
    let n : whole_room c (take (suc k) (t ∷ ts)) ≡ room c t + whole_room c (take k ts) = sum_by-cons (room c) t (take k ts) in
    more k (omega arith) ∙ sym (slice_behind s t rest (room c t) (start_of c ts k) (start_of c (t ∷ ts) (suc k)) (length (text_at ts k)) (omega arith) (omega arith))

-- the places of the texts, and what follows the last one
record AllInPlace (console : Bool) (message : List ℕ) (ts : List (List ℕ)) (ending : List ℕ) : Type 0 where
  texts : (k : ℕ) → k < length ts → At console message ts k
  rest : ending ≡ drop (whole_room console ts) message

in_place : (c : Bool) (fs : List Field) (e ts : List (List ℕ)) (text ending : List ℕ) → Reads c fs e text ts ending → AllInPlace c text ts ending
in_place c fs e ts text ending at_end = record { texts = λ k l. absurd (omega arith); rest = refl }
in_place c fs e ts text ending (one_more {f} {fs = more} {texts} {space} {t} {rest} p r) =
    let b = in_place c more (e ++ t ∷ []) texts rest ending r in
    let n = space_length f.form e c space t rest p in
    record {
      texts = text_step c space t rest texts n b.texts;
      rest = b.rest ∙ sym (ap (λ (x : ℕ). drop x (space ++ (t ++ rest))) (sum_by-cons (room c) t texts) ∙ drop_behind space t rest (room c t) (whole_room c texts) (omega arith));
    }

pub row_in_place : (row : RowShape) (text : List ℕ) (r : ReadText) → RowReads row text r → InPlace (is_console row) text r
row_in_place row text r h =
    let all = in_place (is_console row) row.fields [] r.texts text (h.following ++ r.trailer) h.fields in
    record { texts = all.texts; trailer = (h.following, all.rest) }
