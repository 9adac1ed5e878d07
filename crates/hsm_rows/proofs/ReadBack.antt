-- What is read was there to read: each text stands, and they make up the whole text.
use Rattle.std.proofs.Common.{◌≡◌, ℕ, Bool, true, false, ◌+◌, ◌-◌, List, [], ◌∷◌, ◌++◌, length, take, drop, Option, Some, None, Ok, Err, refl, append_assoc, ap, ◌∙◌, sym, slice_range, arith, subst, cond, zero-add}
use Rattle.std.specs.Prelude.{Result, nat_eq, ◌==◌}
use Rattle.std.specs.List.{starts_with}
use Rattle.std.proofs.lemmas.List.{take-append-drop, length-take-le, append-nil}
use Rattle.std.proofs.lemmas.Grind.{common_steps}
use Rattle.std.proofs.lemmas.Bool.Decides.{nat_tests}
use Rattle.hsm_rows.specs.declared.row.Field.{Field}
use Rattle.hsm_rows.specs.declared.row.Form.{Form}
use Rattle.hsm_rows.specs.declared.row.Code.{Code}
use Rattle.hsm_rows.specs.declared.read.Spot.{Spot}
use Rattle.hsm_rows.specs.Forms.{size}
use Rattle.hsm_rows.specs.Reading.{read_on, spot_of, FieldTexts, is_ending, Reads, at_end, one_more, Placed, in_host, in_console, left_out, Stands, spot, is_left_out, is_end, present}
use Rattle.hsm_rows.proofs.Within.{sizes_fit}
use Rattle.hsm_rows.proofs.ReadSteps.{read_none, read_some}

-- a text that was found, with what stands before and behind it
pub record Found (c : Bool) (f : Form) (e : List (List ℕ)) (text : List ℕ) (s : Spot) : Type 0 where
  pub space : List ℕ
  pub t : List ℕ
  pub rest : List ℕ
  pub whole : space ++ (t ++ rest) ≡ text
  pub placed : Placed f e c space t rest
  pub is_text : slice_range text s.from s.to ≡ t
  pub is_rest : drop s.to text ≡ rest

-- the texts that were read
pub record Back (c : Bool) (fs : List Field) (e : List (List ℕ)) (text : List ℕ) (r : FieldTexts) : Type 0 where
  pub ts : List (List ℕ)
  pub texts_are : r.texts ≡ e ++ ts
  pub reads : Reads c fs e text ts r.ending
  pub ends : is_ending c r.ending ≡ true

stands_split : (f : Form) (e : List (List ℕ)) (text : List ℕ) (n : ℕ) → size f e text ≡ Some n → Stands f e (take n text ++ drop n text) (length (take n text))
stands_split f e text n k = rw (take-append-drop n text, length-take-le n text (sizes_fit f e text n k)) k

front_slice : (text : List ℕ) (n : ℕ) → slice_range text 0 (0 + n) ≡ take n text
front_slice text n = grind (arith, common_steps)

drop_one_more : (n : ℕ) (text : List ℕ) → drop (1 + n) text ≡ drop n (drop 1 text)
drop_one_more n text = grind (arith, common_steps)

some_same : {A : Type 0} (a b : A) → Some a ≡ Some b → a ≡ b
some_same a b h = cc

ok_same : (a b : FieldTexts) → ◌≡◌ {A = Result FieldTexts Code} (Ok a) (Ok b) → a ≡ b
ok_same a b h = cc

found_host : (f : Form) (e : List (List ℕ)) (text : List ℕ) (n : ℕ) → size f e text ≡ Some n → Found false f e text (record { from = 0; to = 0 + n })
found_host f e text n h = record {
  space = [];
  t = take n text;
  rest = drop n text;
  whole = take-append-drop n text;
  placed = in_host (stands_split f e text n h);
  is_text = front_slice text n;
  is_rest = rw zero-add;
}

host_by : (f : Form) (e : List (List ℕ)) (text : List ℕ) (s : Spot) (o : Option ℕ) → size f e text ≡ o → spot 0 o ≡ Some s → Found false f e text s
host_by f e text s None k h = let z : ⊥ = cc in absurd z
host_by f e text s (Some n) k h =
    let P : Spot → Type 0 = λ x. Found false f e text x in
    subst P (some_same _ _ h) (found_host f e text n k)

one_space : (text : List ℕ) → starts_with nat_eq text (32 ∷ []) ≡ true → 32 ∷ drop 1 text ≡ text
one_space [] h = let z : ⊥ = cc in absurd z
one_space (x ∷ xs) h = grind (arith, common_steps, nat_tests)

not_end : (t : List ℕ) (n : ℕ) → length t ≡ n → (n == 0) ≡ false → is_end t ≡ false
not_end [] n h k = grind (arith, nat_tests)
not_end (c ∷ cs) n h k = refl

found_console : (f : Form) (e : List (List ℕ)) (text : List ℕ) (n : ℕ) → (n == 0) ≡ false → 32 ∷ drop 1 text ≡ text → size f e (drop 1 text) ≡ Some n → Found true f e text (record { from = 1; to = 1 + n })
found_console f e text n p w h = record {
  space = 32 ∷ [];
  t = take n (drop 1 text);
  rest = drop n (drop 1 text);
  whole = ap (λ (x : List ℕ). 32 ∷ x) (take-append-drop n (drop 1 text)) ∙ w;
  placed = in_console (not_end (take n (drop 1 text)) n (length-take-le n (drop 1 text) (sizes_fit f e (drop 1 text) n h)) p) (stands_split f e (drop 1 text) n h);
  is_text = let k : (1 + n) - 1 ≡ n = omega arith in rw k refl;
  is_rest = drop_one_more n text;
}

present_by : (f : Form) (e : List (List ℕ)) (text : List ℕ) (s : Spot) (n : ℕ) (b : Bool) → (n == 0) ≡ b → 32 ∷ drop 1 text ≡ text → size f e (drop 1 text) ≡ Some n → spot 1 (cond b None (Some n)) ≡ Some s → Found true f e text s
present_by f e text s n true p w k h = let z : ⊥ = cc in absurd z
present_by f e text s n false p w k h =
    let P : Spot → Type 0 = λ x. Found true f e text x in
    subst P (some_same _ _ h) (found_console f e text n p w k)

console_by : (f : Form) (e : List (List ℕ)) (text : List ℕ) (s : Spot) (o : Option ℕ) → 32 ∷ drop 1 text ≡ text → size f e (drop 1 text) ≡ o → spot 1 (present o) ≡ Some s → Found true f e text s
console_by f e text s None w k h = let z : ⊥ = cc in absurd z
console_by f e text s (Some n) w k h = present_by f e text s n (n == 0) refl w k h

spaced_by : (f : Form) (e : List (List ℕ)) (text : List ℕ) (s : Spot) (b : Bool) → starts_with nat_eq text (32 ∷ []) ≡ b → cond b (spot 1 (present (size f e (drop 1 text)))) None ≡ Some s → Found true f e text s
spaced_by f e text s true k h = console_by f e text s (size f e (drop 1 text)) (one_space text k) refl h
spaced_by f e text s false k h = let z : ⊥ = cc in absurd z

found_left_out : (f : Form) (e : List (List ℕ)) (text : List ℕ) → is_left_out f text ≡ true → Found true f e text (record { from = 0; to = 0 })
found_left_out f e text h = record { space = []; t = []; rest = text; whole = refl; placed = left_out h; is_text = refl; is_rest = refl }

left_out_by : (f : Form) (e : List (List ℕ)) (text : List ℕ) (s : Spot) (b : Bool) → is_left_out f text ≡ b
    → cond b (Some (record { from = 0; to = 0 })) (cond (starts_with nat_eq text (32 ∷ [])) (spot 1 (present (size f e (drop 1 text)))) None) ≡ Some s → Found true f e text s
left_out_by f e text s true k h =
    let P : Spot → Type 0 = λ x. Found true f e text x in
    subst P (some_same _ _ h) (found_left_out f e text k)
left_out_by f e text s false k h = spaced_by f e text s (starts_with nat_eq text (32 ∷ [])) refl h

pub found : (c : Bool) (f : Form) (e : List (List ℕ)) (text : List ℕ) (s : Spot) → spot_of c f e text ≡ Some s → Found c f e text s
unfolding spot_of
found false f e text s h = host_by f e text s (size f e text) refl h
found true f e text s h = left_out_by f e text s (is_left_out f text) refl h

end_by : (c : Bool) (e : List (List ℕ)) (text : List ℕ) (r : FieldTexts) (b : Bool) → is_ending c text ≡ b
    → cond {A = Result FieldTexts Code} b (Ok (record { texts = e; ending = text })) (Err (record { 0 = 15 })) ≡ Ok r → Back c [] e text r
end_by c e text r true k h =
    let P : FieldTexts → Type 0 = λ x. Back c [] e text x in
    subst P (ok_same (record { texts = e; ending = text }) r h) (record { ts = []; texts_are = sym (append-nil e); reads = at_end; ends = k })
end_by c e text r false k h = let z : ⊥ = cc in absurd z

-- what is read on past a text that was found
pub read_found : (c : Bool) (f : Field) (fs : List Field) (e : List (List ℕ)) (text : List ℕ) (s : Spot) → spot_of c f.form e text ≡ Some s → (F : Found c f.form e text s)
    → read_on c (f ∷ fs) e text ≡ read_on c fs (e ++ F.t ∷ []) F.rest
read_found c f fs e text s h F =
    read_some c f fs e text s h
    ∙ (ap (λ (x : List ℕ). read_on c fs (e ++ x ∷ []) (drop s.to text)) F.is_text ∙ ap (λ (x : List ℕ). read_on c fs (e ++ F.t ∷ []) x) F.is_rest)

back_by : (c : Bool) (f : Field) (fs : List Field) (e : List (List ℕ)) (text : List ℕ) (r : FieldTexts) → read_on c (f ∷ fs) e text ≡ Ok r
    → ((e' : List (List ℕ)) (text' : List ℕ) → read_on c fs e' text' ≡ Ok r → Back c fs e' text' r)
    → (o : Option Spot) → spot_of c f.form e text ≡ o → Back c (f ∷ fs) e text r
back_by c f fs e text r h more None k = let n = read_none c f fs e text k in let z : ⊥ = cc in absurd z
back_by c f fs e text r h more (Some s) k =
    let F = found c f.form e text s k in
    let b = more (e ++ F.t ∷ []) F.rest (sym (read_found c f fs e text s k F) ∙ h) in
    let R : List ℕ → Type 0 = λ x. Reads c (f ∷ fs) e x (F.t ∷ b.ts) r.ending in
    record { ts = F.t ∷ b.ts; texts_are = b.texts_are ∙ append_assoc e (F.t ∷ []) b.ts; reads = subst R F.whole (one_more F.placed b.reads); ends = b.ends }

pub read_back : (c : Bool) (fs : List Field) (e : List (List ℕ)) (text : List ℕ) (r : FieldTexts) → read_on c fs e text ≡ Ok r → Back c fs e text r
unfolding read_on
read_back c [] e text r h = end_by c e text r (is_ending c text) refl h
read_back c (f ∷ fs) e text r h = back_by c f fs e text r h (λ e' text' h'. read_back c fs e' text' r h') (spot_of c f.form e text) refl
