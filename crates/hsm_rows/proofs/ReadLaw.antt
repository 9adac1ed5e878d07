-- What the relation reads is read so, and as nothing else.
use Rattle.std.proofs.Common.{◌≡◌, ℕ, Bool, true, false, ◌&&◌, ◌+◌, ◌-◌, ◌<◌, List, [], ◌∷◌, ◌++◌, length, drop, Some, refl, append_assoc, ap, ◌∙◌, slice_range, arith, append-nil, Ok}
use Rattle.std.specs.Prelude.{Result, ◌==◌, nat_eq}
use Rattle.std.specs.List.{list_all}
use Rattle.std.specs.Char.{is_ascii_hexdigit}
use Rattle.std.proofs.lemmas.Bool.Decides.{nat_tests}
use Rattle.std.proofs.Math.Seq.{take-append_seam, drop-append_seam, drop-append-add}
use Rattle.hsm_rows.specs.declared.row.Field.{Field}
use Rattle.hsm_rows.specs.declared.row.Form.{Form}
use Rattle.hsm_rows.specs.declared.row.Form.TheVariants.{LastComponent}
use Rattle.hsm_rows.specs.declared.row.Code.{Code}
use Rattle.hsm_rows.specs.declared.read.Spot.{Spot}
use Rattle.hsm_rows.specs.Forms.{size, component_digits, text_at}
use Rattle.hsm_rows.specs.Reading.{read_on, spot_of, FieldTexts, Reads, at_end, one_more, Placed, in_host, in_console, left_out, Stands, is_left_out, is_ending, is_end, present}
use Rattle.hsm_rows.proofs.Within.{and_left}
use Rattle.hsm_rows.proofs.TextForms.{run_text}
use Rattle.hsm_rows.proofs.ReadSteps.{read_some, read_end_good}

no_percent : (c : ℕ) → is_ascii_hexdigit c ≡ true → (nat_eq 37 c && true) ≡ false
no_percent c h = grind (arith, nat_tests)

-- no field of which a text stands behind the space is left out
not_left_out : (f : Form) (e : List (List ℕ)) (t rest : List ℕ) → is_end t ≡ false → Stands f e (t ++ rest) (length t) → is_left_out f (32 ∷ (t ++ rest)) ≡ false
unfolding size
not_left_out (LastComponent scheme) e [] rest p h = let z : ⊥ = cc in absurd z
not_left_out (LastComponent scheme) e (c ∷ cs) rest p h =
    no_percent c (and_left (is_ascii_hexdigit c) (list_all is_ascii_hexdigit cs) (run_text is_ascii_hexdigit (component_digits (text_at e scheme)) (c ∷ cs) rest h).1)
not_left_out _ e t rest p h = refl

nonzero : (n : ℕ) → 0 < n → (n == 0) ≡ false
nonzero n h = grind (arith, nat_tests)

is_present : (t : List ℕ) → is_end t ≡ false → present (Some (length t)) ≡ Some (length t)
is_present [] h = let z : ⊥ = cc in absurd z
is_present (c ∷ cs) h = rw (nonzero (length (c ∷ cs)) (omega arith))

-- the text t behind s
abbrev behind : List ℕ → List ℕ → Spot
behind s t = record { from = length s; to = length s + length t }

pub placed_spot : (f : Form) (e : List (List ℕ)) (c : Bool) (s t rest : List ℕ) → Placed f e c s t rest → spot_of c f e (s ++ (t ++ rest)) ≡ Some (behind s t)
unfolding spot_of
placed_spot f e c s t rest (in_host h) = rw h
placed_spot f e c s t rest (in_console p h) = rw (not_left_out f e t rest p h, h, is_present t p)
placed_spot f e c s t rest (left_out h) = rw h

text_behind : (s t rest : List ℕ) → slice_range (s ++ (t ++ rest)) (length s) (length s + length t) ≡ t
text_behind s t rest =
    let n : (length s + length t) - length s ≡ length t = omega arith in
    rw (n, drop-append_seam s (t ++ rest), take-append_seam t rest)

rest_behind : (s t rest : List ℕ) → drop (length s + length t) (s ++ (t ++ rest)) ≡ rest
rest_behind s t rest = rw (drop-append-add s (t ++ rest) (length t), drop-append_seam t rest)

-- what is read on past a placed text
pub read_placed : (c : Bool) (f : Field) (fs : List Field) (e : List (List ℕ)) (s t rest : List ℕ) → Placed f.form e c s t rest
    → read_on c (f ∷ fs) e (s ++ (t ++ rest)) ≡ read_on c fs (e ++ t ∷ []) rest
read_placed c f fs e s t rest p =
    read_some c f fs e (s ++ (t ++ rest)) (behind s t) (placed_spot f.form e c s t rest p)
    ∙ (ap (λ (x : List ℕ). read_on c fs (e ++ x ∷ []) (drop (length s + length t) (s ++ (t ++ rest)))) (text_behind s t rest)
    ∙ ap (λ (x : List ℕ). read_on c fs (e ++ t ∷ []) x) (rest_behind s t rest))

abbrev ok_read : List (List ℕ) → List ℕ → Result FieldTexts Code
ok_read ts ending = Ok (record { texts = ts; ending = ending })

pub read_law : (c : Bool) (fs : List Field) (e ts : List (List ℕ)) (text ending : List ℕ) → Reads c fs e text ts ending → is_ending c ending ≡ true → read_on c fs e text ≡ ok_read (e ++ ts) ending
read_law c fs e ts text ending at_end h = rw append-nil (read_end_good c e ending h)
read_law c fs e ts text ending (one_more {f} {fs = more} {texts} {space} {t} {rest} p r) h =
    read_placed c f more e space t rest p
    ∙ (read_law c more (e ++ t ∷ []) texts rest ending r h
    ∙ ap (λ (x : List (List ℕ)). ok_read x ending) (append_assoc e (t ∷ []) texts))
