-- Keys among the entries of a cache.
use Rattle.std.proofs.Common.{◌≡◌, ℕ, zero, suc, ◌∙◌, Bool, true, false, ◌&&◌, if◌then◌else◌, nat_lt, List, [], ◌∷◌, ◌++◌, length, refl, sym, ap, subst, arith}
use Rattle.std.specs.Prelude.{Option, Some, None, Ok, drop, find, is_some, option_map, cond, ◌==◌}
use Rattle.std.proofs.lemmas.Bool.Decides.{nat_tests}
use Rattle.std.specs.Str.{bytes_eq}
use Rattle.std.proofs.lemmas.List.Elements.{All-append, All-drop}
use Rattle.std.proofs.lemmas.Slice.Eq.{bytes_eq-Decides}
use Rattle.hsm_types.specs.KeyTypes.{same_type}
use Rattle.hsm_types.specs.Schemes.{same_scheme, scheme_parts}
use Rattle.hsm_types.specs.Table.{allows_length}
use Rattle.hsm_types.specs.declared.types.KeyType.{KeyType}
use Rattle.hsm_types.specs.declared.types.Scheme.{Scheme}
use Rattle.hsm_types.proofs.SameType.{same_type-true}
use Rattle.hsm_types.proofs.SameScheme.{same_scheme-true}
use Rattle.hsm_lmk.specs.Opened.{open_answer}
use Rattle.hsm_lmk.specs.Opening.{refuses_scheme}
use Rattle.hsm_lmk.specs.Pairs.{set_at}
use Rattle.hsm_lmk.specs.Sealing.{wrap}
use Rattle.hsm_lmk.specs.Cache.{Agrees, IsEntry, entry_of, is_of, within}
use Rattle.hsm_lmk.specs.declared.kept.KeyEntry.{KeyEntry}

and-left : (a b : Bool) → (a && b) ≡ true → a ≡ true
and-left true b e = refl
and-left false b e = e

and-right : (a b : Bool) → (a && b) ≡ true → b ≡ true
and-right true b e = e
and-right false b e = cc

abbrev pub key_in : Option KeyEntry → Option (List (List ℕ))
key_in found = option_map (λ (e : KeyEntry). e.key) found

-- a key that is found among the older entries is found among all
pub found_older : (p : KeyEntry → Bool) (xs ys : List KeyEntry) (key : List (List ℕ)) → key_in (find p xs) ≡ Some key → key_in (find p (xs ++ ys)) ≡ Some key
found_older p [] ys key e = cc
found_older p (x ∷ xs) ys key e = by (p x) (λ e. found_older p xs ys key e) e
  where
    by : (t : Bool) → (key_in (find p xs) ≡ Some key → key_in (find p (xs ++ ys)) ≡ Some key) → key_in (cond t (Some x) (find p xs)) ≡ Some key → key_in (cond t (Some x) (find p (xs ++ ys))) ≡ Some key
    by true later e = e
    by false later e = later e

-- where none is found among them it is among the newer ones
pub found_newer : (p : KeyEntry → Bool) (xs ys : List KeyEntry) → key_in (find p xs) ≡ None → key_in (find p (xs ++ ys)) ≡ key_in (find p ys)
found_newer p [] ys e = refl
found_newer p (x ∷ xs) ys e = by (p x) (λ e. found_newer p xs ys e) e
  where
    by : (t : Bool) → (key_in (find p xs) ≡ None → key_in (find p (xs ++ ys)) ≡ key_in (find p ys)) → key_in (cond t (Some x) (find p xs)) ≡ None → key_in (cond t (Some x) (find p (xs ++ ys))) ≡ key_in (find p ys)
    by true later e = cc
    by false later e = later e

-- whether an entry was found
pub was_found : (o : Option KeyEntry) (key : List (List ℕ)) → Some key ≡ key_in o → is_some o ≡ true
was_found None key e = cc
was_found (Some x) key e = refl

pub was_missed : (o : Option KeyEntry) → None ≡ key_in o → is_some o ≡ false
was_missed None e = refl
was_missed (Some x) e = cc

-- what opening a text answers
abbrev pub answers : List (List (List ℕ)) → KeyType → Scheme → List ℕ → List (List ℕ) → Type 0
answers set ty s text key = open_answer (refuses_scheme ty s) (allows_length ty (scheme_parts s)) (wrap set ty) s text ≡ Ok key

same_number : (a b : ℕ) → (a == b) ≡ true → a ≡ b
same_number a b h = grind (arith, nat_tests)

-- the entry that has the set, the type, the scheme and the text has the key that opening answers
entry_answers : (sets : List (List (List (List ℕ)))) (n : ℕ) (ty : KeyType) (s : Scheme) (text : List ℕ) (e : KeyEntry) → is_of n ty s text e ≡ true → IsEntry sets e → answers (set_at sets n) ty s text e.key
entry_answers sets n ty s text e is h =
    let set_is : e.set ≡ n = same_number e.set n (and-left (e.set == n) (same_type e.ty ty && (same_scheme e.scheme s && bytes_eq e.text.items text)) is) in
    let more = and-right (e.set == n) (same_type e.ty ty && (same_scheme e.scheme s && bytes_eq e.text.items text)) is in
    let type_is : e.ty ≡ ty = same_type-true e.ty ty (and-left (same_type e.ty ty) (same_scheme e.scheme s && bytes_eq e.text.items text) more) in
    let rest = and-right (same_type e.ty ty) (same_scheme e.scheme s && bytes_eq e.text.items text) more in
    let scheme_is : e.scheme ≡ s = same_scheme-true e.scheme s (and-left (same_scheme e.scheme s) (bytes_eq e.text.items text) rest) in
    let text_is : e.text.items ≡ text = (bytes_eq-Decides e.text.items text).0 (and-right (same_scheme e.scheme s) (bytes_eq e.text.items text) rest) in
    subst (λ k. answers (set_at sets k) ty s text e.key) set_is
    (subst (λ t. answers (set_at sets e.set) t s text e.key) type_is
    (subst (λ c. answers (set_at sets e.set) e.ty c text e.key) scheme_is
    (subst (λ x. answers (set_at sets e.set) e.ty e.scheme x e.key) text_is h.1)))

-- a key that is found among entries that agree with the sets is what opening answers
pub found_answers : (sets : List (List (List (List ℕ)))) (n : ℕ) (ty : KeyType) (s : Scheme) (text : List ℕ) (es : List KeyEntry) (key : List (List ℕ)) → Agrees sets es → Some key ≡ key_in (entry_of n ty s text es) → Ok key ≡ open_answer (refuses_scheme ty s) (allows_length ty (scheme_parts s)) (wrap (set_at sets n) ty) s text
found_answers sets n ty s text [] key h e = cc
found_answers sets n ty s text (x ∷ xs) key h e = by (is_of n ty s text x) refl (λ e. found_answers sets n ty s text xs key (All-drop (IsEntry sets) 1 (x ∷ xs) h) e) e
  where
    by : (t : Bool) → is_of n ty s text x ≡ t → (Some key ≡ key_in (entry_of n ty s text xs) → Ok key ≡ open_answer (refuses_scheme ty s) (allows_length ty (scheme_parts s)) (wrap (set_at sets n) ty) s text) → Some key ≡ key_in (cond t (Some x) (entry_of n ty s text xs)) → Ok key ≡ open_answer (refuses_scheme ty s) (allows_length ty (scheme_parts s)) (wrap (set_at sets n) ty) s text
    by true is later e = let same : key ≡ x.key = cc in ap Ok same ∙ sym (entry_answers sets n ty s text x is (h 0 x (omega arith)))
    by false is later e = later e

-- one more entry that agrees, and the oldest gone where there are then too many
pub agrees_appended : (sets : List (List (List (List ℕ)))) (n : ℕ) (es : List KeyEntry) (e : KeyEntry) → Agrees sets es → IsEntry sets e → Agrees sets (within n (es ++ e ∷ []))
agrees_appended sets n es e h is = by (nat_lt n (length (es ++ e ∷ [])))
  where
    all : Agrees sets (es ++ e ∷ [])
    all = All-append (IsEntry sets) es (e ∷ []) h one
      where
        one : Agrees sets (e ∷ [])
        one zero d k = is
        one (suc i) d k = absurd (omega arith)

    by : (t : Bool) → Agrees sets (if t then drop 1 (es ++ e ∷ []) else es ++ e ∷ [])
    by true = All-drop (IsEntry sets) 1 (es ++ e ∷ []) all
    by false = all

-- a copy of a text answers as the text does
pub copy_answers : (set : List (List (List ℕ))) (ty : KeyType) (s : Scheme) (text copy : List ℕ) (key : List (List ℕ)) → copy ≡ text → answers set ty s text key → answers set ty s copy key
copy_answers set ty s text copy key same h = subst (λ t. answers set ty s t key) (sym same) h
