-- The texts that a host row reads stand, and are texts of their forms.
use Rattle.std.proofs.Common.{inl, inr, ◌≡◌, ℕ, Bool, false, ◌+◌, List, [], ◌∷◌, ◌++◌, length, refl, subst, sym, ap, ap₂, ◌∙◌, append_assoc, length-append, true, take, Option, Some, ◌↔◌}
use Rattle.std.specs.Prelude.{codes, Ok}
use Rattle.std.specs.Char.{is_ascii_digit, is_ascii_hexdigit}
use Rattle.std.proofs.Math.Seq.{get_or-append_seam, take-append_seam}
use Rattle.hsm_rows.specs.declared.row.Form.{Form}
use Rattle.hsm_rows.specs.declared.row.Form.TheVariants as form
use Rattle.hsm_rows.specs.declared.row.Field.{Field}
use Rattle.hsm_rows.specs.Table.{RowShape}
use Rattle.hsm_rows.specs.Forms.{size, when, formats, pair_codes, types, wrap_schemes, text_at, last_text, mode_is, is_ff, hex_value, two_digit_value, mac_digits, component_digits, key_by_flag, wrapper_size, is_activity, is_activity_or_star, is_minutes, is_word}
use Rattle.hsm_rows.specs.Reading.{reading, ReadText, is_console, Reads, at_end, one_more, Placed, in_host, in_console, left_out, Stands}
use Rattle.hsm_rows.specs.Standing.{IsFormat, IsOneOf, IsTypeCode, IsWrapper, IsKeyText, IsWhere, HasNoSemicolon, MayFollow, StandsBefore, IsText, IsTextOrAbsent, AreTextsOrAbsent, EachText, TextsStand, AreTexts, AreHexDigits}
use Rattle.hsm_text.specs.Sizes.{hex_size, word_size, one_of_size, key_size}
use Rattle.hsm_text.specs.declared.keys.KeyForm.TheVariants as key
use Rattle.hsm_rows.proofs.Refusals.{row_reads}
use Rattle.hsm_rows.proofs.TextForms.{run_text, one_of_text, length_text, account_text, filled_text, clear_text, validation_text, pair_text, count_text, take_text, data_text, set_text_is, when_text, one_of_is, starts_text}
use Rattle.hsm_rows.proofs.KeyForms.{key_is, key_back, run_back}
use Rattle.hsm_rows.proofs.TextsBack.{one_of_back, type_is, type_back, wrapper_is, wrapper_back, account_back, filled_back, clear_back, validation_back, take_back, data_back, set_back, length_back, when_back, token_is, token_back, word_spaceless, minutes_spaceless, activity_spaceless, star_spaceless, just_is}

-- what a text of the form is, and what may follow it
abbrev Form_text : Form → List (List ℕ) → List ℕ → List ℕ → Type 0
Form_text f e t rest = IsText f e t × MayFollow f e t rest

under : (b : Bool) (size : Option ℕ) (t : List ℕ) (P : Type 0) → when b size ≡ Some (length t) → (size ≡ Some (length t) → P) → IsWhere b t P
under b size t P h p = let w = when_text b size t P h p in record { present = w.0; absent = w.1 }

-- under a condition, with what may follow
followed : (b : Bool) (size : Option ℕ) (t : List ℕ) (P Q : Type 0) → when b size ≡ Some (length t) → (size ≡ Some (length t) → P × Q) → IsWhere b t P × (b ≡ true → Q)
followed true size t P Q h p = (record { present = λ e. (p h).0; absent = λ e. cc }, λ e. (p h).1)
followed false size t P Q h p = (under false size t P h (λ k. (p k).0), λ e. cc)

-- a text of the form that stands is what the form says
is_text : (f : Form) (e : List (List ℕ)) (t rest : List ℕ) → Stands f e (t ++ rest) (length t) → Form_text f e t rest
unfolding size pair_codes
is_text form.Digits1 e t rest h = (run_text is_ascii_digit 1 t rest h, tt)
is_text form.Digits3 e t rest h = (run_text is_ascii_digit 3 t rest h, tt)
is_text form.Digits4 e t rest h = (run_text is_ascii_digit 4 t rest h, tt)
is_text form.Digits12 e t rest h = (run_text is_ascii_digit 12 t rest h, tt)
is_text form.Digits16 e t rest h = (run_text is_ascii_digit 16 t rest h, tt)
is_text form.Hex16 e t rest h = (run_text is_ascii_hexdigit 16 t rest h, tt)
is_text form.Key e t rest h = (key_is key.K t rest h, tt)
is_text form.Pair e t rest h = (record { text = key_is key.P t rest h; parts = pair_text t rest h }, tt)
is_text form.WrappedKey e t rest h = (key_is key.W t rest h, tt)
is_text (form.KeyByFlag flag) e t rest h = (key_is (key_by_flag (text_at e flag)) t rest h, tt)
is_text form.KeyType e t rest h = (type_is t rest h, tt)
is_text form.MacType e t rest h = (one_of_is (codes "003" ∷ codes "008" ∷ []) t rest h, tt)
is_text form.Type2 e t rest h = (one_of_is (codes "FF" ∷ codes "00" ∷ codes "01" ∷ codes "02" ∷ codes "03" ∷ codes "08" ∷ codes "09" ∷ codes "0A" ∷ codes "0B" ∷ []) t rest h, tt)
is_text form.Flag e t rest h = (one_of_is (codes "0" ∷ codes "1" ∷ codes "2" ∷ []) t rest h, tt)
is_text form.Scheme e t rest h = (one_of_is (codes "Z" ∷ codes "U" ∷ codes "T" ∷ []) t rest h, tt)
is_text form.WrapScheme e t rest h = (one_of_is (codes "Z" ∷ codes "U" ∷ codes "T" ∷ codes "X" ∷ codes "Y" ∷ []) t rest h, tt)
is_text form.Format e t rest h = (one_of_text IsFormat formats t rest (inl refl, (inr (inl refl), (inr (inr (inl refl)), (inr (inr (inr refl)), tt)))) h, tt)
is_text form.Length e t rest h = (length_text t rest h, tt)
is_text form.Wrapper e t rest h = wrapper_is t rest h
is_text form.Account e t rest h = (account_text t rest h, tt)
is_text form.ClearPin e t rest h = (clear_text t rest h, tt)
is_text (form.Offset check) e t rest h = (filled_text (two_digit_value (text_at e check)) t rest h, tt)
is_text form.Validation e t rest h = (validation_text t rest h, tt)
is_text form.ZeroToOne e t rest h = (one_of_is (codes "0" ∷ codes "1" ∷ []) t rest h, tt)
is_text form.ZeroToTwo e t rest h = (one_of_is (codes "0" ∷ codes "1" ∷ codes "2" ∷ []) t rest h, tt)
is_text form.ZeroToThree e t rest h = (one_of_is (codes "0" ∷ codes "1" ∷ codes "2" ∷ codes "3" ∷ []) t rest h, tt)
is_text form.OneOrThree e t rest h = (one_of_is (codes "1" ∷ codes "3" ∷ []) t rest h, tt)
is_text form.Count e t rest h = (count_text t rest h, tt)
is_text form.Data e t rest h = (take_text (hex_value (last_text e)) t rest h, tt)
is_text (form.DataByInput input) e t rest h = (data_text (text_at e input) t rest (hex_value (last_text e)) h, tt)
is_text (form.Mode03Mac k) e t rest h = (under (mode_is (codes "03") e) (hex_size (mac_digits (text_at e k)) (t ++ rest)) t (AreHexDigits (mac_digits (text_at e k)) t) h (run_text is_ascii_hexdigit (mac_digits (text_at e k)) t rest), tt)
is_text form.TwoZeros e t rest h = (just_is (codes "00") t rest (starts_text t rest (codes "00")) h, tt)
is_text (form.FfSemicolon ty) e t rest h = (under (is_ff (text_at e ty)) (word_size (codes ";") (t ++ rest)) t (t ≡ codes ";") h (just_is (codes ";") t rest (starts_text t rest (codes ";"))), tt)
is_text (form.FfType ty) e t rest h = (under (is_ff (text_at e ty)) (one_of_size types (t ++ rest)) t (IsTypeCode t) h (type_is t rest), tt)
is_text form.Mode1Wrapper e t rest h = followed (mode_is (codes "1") e) (wrapper_size (t ++ rest)) t (IsWrapper t) (t ≡ [] → HasNoSemicolon rest) h (wrapper_is t rest)
is_text form.Mode1Key e t rest h = (under (mode_is (codes "1") e) (key_size key.K (t ++ rest)) t (IsKeyText key.K t) h (key_is key.K t rest), tt)
is_text form.Mode1WrapScheme e t rest h = (under (mode_is (codes "1") e) (one_of_size wrap_schemes (t ++ rest)) t (IsOneOf wrap_schemes t) h (one_of_is wrap_schemes t rest), tt)
is_text form.Mode23Chain e t rest h = (under (mode_is (codes "23") e) (hex_size 16 (t ++ rest)) t (AreHexDigits 16 t) h (run_text is_ascii_hexdigit 16 t rest), tt)
is_text (form.Component k) e t rest h = (run_text is_ascii_hexdigit (component_digits (text_at e k)) t rest h, tt)
is_text (form.LastComponent k) e t rest h = (run_text is_ascii_hexdigit (component_digits (text_at e k)) t rest h, tt)
is_text form.SetNumber e t rest h = (set_text_is t rest h, tt)
is_text form.Act e t rest h = token_is is_activity t rest h
is_text form.ActOrAll e t rest h = token_is is_activity_or_star t rest h
is_text form.Minutes e t rest h = token_is is_minutes t rest h
is_text form.Word e t rest h = token_is is_word t rest h

format_one : (t : List ℕ) → IsFormat t → IsOneOf formats t
format_one t (inl h) = inl h
format_one t (inr (inl h)) = inr (inl h)
format_one t (inr (inr (inl h))) = inr (inr (inl h))
format_one t (inr (inr (inr h))) = inr (inr (inr (inl h)))

-- a text that is what the form says stands before what may follow it
text_stands : (f : Form) (e : List (List ℕ)) (t rest : List ℕ) → Form_text f e t rest → Stands f e (t ++ rest) (length t)
unfolding size pair_codes one_of_size word_size
text_stands form.Digits1 e t rest h = run_back is_ascii_digit 1 t rest h.0.0 h.0.1
text_stands form.Digits3 e t rest h = run_back is_ascii_digit 3 t rest h.0.0 h.0.1
text_stands form.Digits4 e t rest h = run_back is_ascii_digit 4 t rest h.0.0 h.0.1
text_stands form.Digits12 e t rest h = run_back is_ascii_digit 12 t rest h.0.0 h.0.1
text_stands form.Digits16 e t rest h = run_back is_ascii_digit 16 t rest h.0.0 h.0.1
text_stands form.Hex16 e t rest h = run_back is_ascii_hexdigit 16 t rest h.0.0 h.0.1
text_stands form.Key e t rest h = key_back key.K t rest h.0
text_stands form.Pair e t rest h = key_back key.P t rest h.0.text
text_stands form.WrappedKey e t rest h = key_back key.W t rest h.0
text_stands (form.KeyByFlag flag) e t rest h = key_back (key_by_flag (text_at e flag)) t rest h.0
text_stands form.KeyType e t rest h = type_back t rest h.0
text_stands form.MacType e t rest h = one_of_back (codes "003" ∷ codes "008" ∷ []) t rest (refl, (refl, tt)) h.0
text_stands form.Type2 e t rest h = one_of_back (codes "FF" ∷ codes "00" ∷ codes "01" ∷ codes "02" ∷ codes "03" ∷ codes "08" ∷ codes "09" ∷ codes "0A" ∷ codes "0B" ∷ []) t rest (refl, (refl, (refl, (refl, (refl, (refl, (refl, (refl, (refl, tt))))))))) h.0
text_stands form.Flag e t rest h = one_of_back (codes "0" ∷ codes "1" ∷ codes "2" ∷ []) t rest (refl, (refl, (refl, tt))) h.0
text_stands form.Scheme e t rest h = one_of_back (codes "Z" ∷ codes "U" ∷ codes "T" ∷ []) t rest (refl, (refl, (refl, tt))) h.0
text_stands form.WrapScheme e t rest h = one_of_back (codes "Z" ∷ codes "U" ∷ codes "T" ∷ codes "X" ∷ codes "Y" ∷ []) t rest (refl, (refl, (refl, (refl, (refl, tt))))) h.0
text_stands form.Format e t rest h = one_of_back formats t rest (refl, (refl, (refl, (refl, tt)))) (format_one t h.0)
text_stands form.Length e t rest h = length_back t rest h.0
text_stands form.Wrapper e t rest h = wrapper_back t rest h.0 h.1
text_stands form.Account e t rest h = account_back t rest h.0
text_stands form.ClearPin e t rest h = clear_back t rest h.0
text_stands (form.Offset check) e t rest h = filled_back (two_digit_value (text_at e check)) t rest h.0
text_stands form.Validation e t rest h = validation_back t rest h.0
text_stands form.ZeroToOne e t rest h = one_of_back (codes "0" ∷ codes "1" ∷ []) t rest (refl, (refl, tt)) h.0
text_stands form.ZeroToTwo e t rest h = one_of_back (codes "0" ∷ codes "1" ∷ codes "2" ∷ []) t rest (refl, (refl, (refl, tt))) h.0
text_stands form.ZeroToThree e t rest h = one_of_back (codes "0" ∷ codes "1" ∷ codes "2" ∷ codes "3" ∷ []) t rest (refl, (refl, (refl, (refl, tt)))) h.0
text_stands form.OneOrThree e t rest h = one_of_back (codes "1" ∷ codes "3" ∷ []) t rest (refl, (refl, tt)) h.0
text_stands form.Count e t rest h = run_back is_ascii_hexdigit 4 t rest h.0.digits.0 h.0.digits.1
text_stands form.Data e t rest h = take_back (hex_value (last_text e)) t rest h.0
text_stands (form.DataByInput input) e t rest h = data_back (text_at e input) t rest (hex_value (last_text e)) h.0
text_stands (form.Mode03Mac k) e t rest h = when_back (mode_is (codes "03") e) (hex_size (mac_digits (text_at e k)) (t ++ rest)) t (AreHexDigits (mac_digits (text_at e k)) t) h.0 (λ m d. run_back is_ascii_hexdigit (mac_digits (text_at e k)) t rest d.0 d.1)
text_stands form.TwoZeros e t rest h = subst (λ (x : List ℕ). word_size (codes "00") (x ++ rest) ≡ Some (length x)) (sym h.0) refl
text_stands (form.FfSemicolon ty) e t rest h = when_back (is_ff (text_at e ty)) (word_size (codes ";") (t ++ rest)) t (t ≡ codes ";") h.0 (λ m d. subst (λ (x : List ℕ). word_size (codes ";") (x ++ rest) ≡ Some (length x)) (sym d) refl)
text_stands (form.FfType ty) e t rest h = when_back (is_ff (text_at e ty)) (one_of_size types (t ++ rest)) t (IsTypeCode t) h.0 (λ m. type_back t rest)
text_stands form.Mode1Wrapper e t rest h = when_back (mode_is (codes "1") e) (wrapper_size (t ++ rest)) t (IsWrapper t) h.0 (λ m w. wrapper_back t rest w (h.1 m))
text_stands form.Mode1Key e t rest h = when_back (mode_is (codes "1") e) (key_size key.K (t ++ rest)) t (IsKeyText key.K t) h.0 (λ m. key_back key.K t rest)
text_stands form.Mode1WrapScheme e t rest h = when_back (mode_is (codes "1") e) (one_of_size wrap_schemes (t ++ rest)) t (IsOneOf wrap_schemes t) h.0 (λ m. one_of_back wrap_schemes t rest (refl, (refl, (refl, (refl, (refl, tt))))))
text_stands form.Mode23Chain e t rest h = when_back (mode_is (codes "23") e) (hex_size 16 (t ++ rest)) t (AreHexDigits 16 t) h.0 (λ m d. run_back is_ascii_hexdigit 16 t rest d.0 d.1)
text_stands (form.Component k) e t rest h = run_back is_ascii_hexdigit (component_digits (text_at e k)) t rest h.0.0 h.0.1
text_stands (form.LastComponent k) e t rest h = run_back is_ascii_hexdigit (component_digits (text_at e k)) t rest h.0.0 h.0.1
text_stands form.SetNumber e t rest h = set_back t rest h.0
text_stands form.Act e t rest h = token_back is_activity t rest (activity_spaceless t h.0) h.0 h.1
text_stands form.ActOrAll e t rest h = token_back is_activity_or_star t rest (star_spaceless t h.0) h.0 h.1
text_stands form.Minutes e t rest h = token_back is_minutes t rest (minutes_spaceless t h.0) h.0 h.1
text_stands form.Word e t rest h = token_back is_word t rest (word_spaceless t h.0) h.0 h.1

-- a text of the form stands just where it is what the form says, before what may follow it
pub forms_are : (f : Form) (e : List (List ℕ)) (t rest : List ℕ) → Stands f e (t ++ rest) (length t) ↔ (IsText f e t × MayFollow f e t rest)
forms_are f e t rest = (is_text f e t rest, text_stands f e t rest)

same_fronts : (t u rest more : List ℕ) → t ++ rest ≡ u ++ more → length t ≡ length u → t ≡ u
same_fronts t u rest more h k = sym (take-append_seam t rest) ∙ (ap₂ (λ (n : ℕ) (x : List ℕ). take n x) k h ∙ take-append_seam u more)

same_size : (o : Option ℕ) (a b : ℕ) → o ≡ Some a → o ≡ Some b → a ≡ b
same_size o a b h k = cc

-- and no other text of the form does
pub one_text : (f : Form) (e : List (List ℕ)) (t u rest more : List ℕ) → t ++ rest ≡ u ++ more → IsText f e t → MayFollow f e t rest → IsText f e u → MayFollow f e u more → t ≡ u
one_text f e t u rest more same a b c d =
    same_fronts t u rest more same
    (same_size (size f e (t ++ rest)) (length t) (length u) (text_stands f e t rest (a, b)) (ap (size f e) same ∙ text_stands f e u more (c, d)))

in_host_row : (f : Form) (e : List (List ℕ)) (s t rest : List ℕ) → Placed f e false s t rest → Stands f e (t ++ rest) (length t)
in_host_row f e s t rest (in_host h) = h

in_console_row : (f : Form) (e : List (List ℕ)) (s t rest : List ℕ) → Placed f e true s t rest → IsTextOrAbsent f e t
in_console_row f e s t rest (in_console p h) = inl (is_text f e t rest h).0
in_console_row f e s t rest (left_out h) = inr (refl, (rest, h))

text_there : (e : List (List ℕ)) (t : List ℕ) (ts texts : List (List ℕ)) → texts ≡ e ++ t ∷ ts → text_at texts (length e) ≡ t
text_there e t ts texts h = ap (λ (x : List (List ℕ)). text_at x (length e)) h ∙ get_or-append_seam e t ts []

module _ (side : Bool) (P : Form → List (List ℕ) → List ℕ → Type 0) (all : (f : Form) (e : List (List ℕ)) (s t rest : List ℕ) → Placed f e side s t rest → P f e t) where
  -- of each text on from those that were read
  each_from : (fs : List Field) (e ts texts : List (List ℕ)) (text ending : List ℕ) → Reads side fs e text ts ending → texts ≡ e ++ ts
      → EachText P fs e (length e) texts
  each_from fs e ts texts text ending at_end w = tt
  each_from fs e ts texts text ending (one_more {f} {fs = more} {texts = ts'} {space} {t} {rest} p r) w =
      let there = text_there e t ts' texts w in
      let count : length (e ++ t ∷ []) ≡ length e + 1 = length-append e (t ∷ []) in
      let Q : List ℕ → Type 0 = λ x. P f.form e x in
      let R : List ℕ → Type 0 = λ x. EachText P more (e ++ x ∷ []) (length e + 1) texts in
      let S : ℕ → Type 0 = λ n. EachText P more (e ++ t ∷ []) n texts in
      let further = each_from more (e ++ t ∷ []) ts' texts rest ending r (w ∙ sym (append_assoc e (t ∷ []) ts')) in
      (subst Q (sym there) (all f.form e space t rest p), subst R (sym there) (subst S count further))

  pub each_text : (row : RowShape) (text : List ℕ) (r : ReadText) → is_console row ≡ side → reading row text ≡ Ok r → EachText P row.fields [] 0 r.texts
  each_text row text r of_side h =
      let reads = row_reads row text r h in
      each_from row.fields [] r.texts r.texts text (reads.following ++ r.trailer) (subst (λ (c : Bool). Reads c row.fields [] text r.texts (reads.following ++ r.trailer)) of_side reads.fields) refl

pub texts_stand : (row : RowShape) (text : List ℕ) (r : ReadText) → is_console row ≡ false → reading row text ≡ Ok r → TextsStand row.fields r.texts
texts_stand = each_text false StandsBefore (λ f e s t rest p. (rest, in_host_row f e s t rest p))

pub are_texts : (row : RowShape) (text : List ℕ) (r : ReadText) → is_console row ≡ false → reading row text ≡ Ok r → AreTexts row.fields r.texts
are_texts = each_text false IsText (λ f e s t rest p. (is_text f e t rest (in_host_row f e s t rest p)).0)

pub console_texts : (row : RowShape) (text : List ℕ) (r : ReadText) → is_console row ≡ true → reading row text ≡ Ok r → AreTextsOrAbsent row.fields r.texts
console_texts = each_text true IsTextOrAbsent in_console_row
