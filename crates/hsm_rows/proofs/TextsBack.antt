-- A text that is what its form says stands before what may follow it.
use Rattle.std.proofs.Common.{◌≡◌, ◌≢◌, ℕ, suc, Bool, true, false, not, ◌&&◌, ◌||◌, ◌+◌, ◌-◌, ◌≤◌, List, [], ◌∷◌, ◌++◌, length, take, drop, Option, Some, None, refl, arith, subst, cond, sym, ap, ◌∙◌, ◌⊎◌, inl, inr, length-append, append_assoc, take-append-drop, length-take-le}
use Rattle.std.specs.Prelude.{codes, nat_eq, nat_le, count_by, ◌==◌, ◌%◌, find, is_some}
use Rattle.std.specs.List.{list_all, prefix_len, starts_with, AllByRecursion}
use Rattle.std.specs.Char.{is_ascii_digit, is_ascii_hexdigit}
use Rattle.std.specs.Str.{bytes_eq}
use Rattle.std.proofs.lemmas.Bool.Decides.{nat_tests}
use Rattle.std.proofs.lemmas.List.{drop-append-le}
use Rattle.std.proofs.lemmas.Slice.Eq.{bytes_eq-Decides}
use Rattle.hsm_auth.specs.Activities.{activities, activity_of, text_of}
use Rattle.hsm_auth.specs.declared.activity.Activity.{Activity}
use Rattle.hsm_types.specs.Table.{code_of}
use Rattle.hsm_types.specs.declared.types.KeyType.{KeyType}
use Rattle.hsm_types.specs.declared.types.KeyType.TheVariants as type
use Rattle.hsm_text.specs.Sizes.{only_if, take_size, one_of_size, word_size, hex_size}
use Rattle.hsm_rows.specs.Forms.{when, wrapper_size, account_size, filled_size, validation_size, token_size, data_size, hex_or_n, is_n, is_f, is_set_text, set_size, is_no_space, is_visible, is_word, is_minutes, is_activity, is_activity_or_star, decimal_from, types, lengths}
use Rattle.hsm_rows.specs.Standing.{IsOneOf, IsTypeCode, IsWrapper, IsLength, IsAccount, IsFilled, IsValidation, IsData, IsWhere, EndsWord, HasNoSemicolon}
use Rattle.hsm_rows.proofs.Within.{and_left, and_right, set_long}
use Rattle.hsm_rows.proofs.TextForms.{front, one_of_text, one_of_is, each_of}
use Rattle.hsm_rows.proofs.KeyForms.{only_true, both, le_true, run_back}

-- ---- one of some texts

-- each of the texts stands before the rest
abbrev pub EachStands : List (List ℕ) → List ℕ → Type 0
EachStands ws rest = AllByRecursion (λ (w : List ℕ). one_of_size ws (w ++ rest) ≡ Some (length w)) ws

pub one_of_back : (ws : List (List ℕ)) (t rest : List ℕ) → EachStands ws rest → IsOneOf ws t → one_of_size ws (t ++ rest) ≡ Some (length t)
one_of_back ws t rest all h = each_of (λ (w : List ℕ). one_of_size ws (w ++ rest) ≡ Some (length w)) ws t all h

-- the codes of the key types
pub type_is : (t rest : List ℕ) → one_of_size types (t ++ rest) ≡ Some (length t) → IsTypeCode t
unfolding types
type_is t rest h =
    one_of_text IsTypeCode types t rest (
      (type.Zmk, refl),
      ((type.Zpk, refl), ((type.Tpk, refl), ((type.Cvk, refl), ((type.Tak, refl), ((type.Zak, refl), ((type.Bdk, refl), ((type.Zek, refl), ((type.Dek, refl), tt)))))))),
    )
    h

each_type : (ty : KeyType) (rest : List ℕ) → one_of_size types (code_of ty ++ rest) ≡ Some (length (code_of ty))
unfolding types one_of_size
each_type type.Zmk rest = refl
each_type type.Zpk rest = refl
each_type type.Tpk rest = refl
each_type type.Cvk rest = refl
each_type type.Tak rest = refl
each_type type.Zak rest = refl
each_type type.Bdk rest = refl
each_type type.Zek rest = refl
each_type type.Dek rest = refl

pub type_back : (t rest : List ℕ) → IsTypeCode t → one_of_size types (t ++ rest) ≡ Some (length t)
type_back t rest h = subst (λ (x : List ℕ). one_of_size types (x ++ rest) ≡ Some (length x)) (sym h.1) (each_type h.0 rest)

-- ---- the flag of a wrapping key

semicolon_by : (c : ℕ) (b : Bool) → nat_eq 59 c ≡ b → c ≢ 59 → b ≡ false
semicolon_by c true h k = absurd (k (let e : c ≡ 59 = grind (arith, nat_tests) in e))
semicolon_by c false h k = refl

none_follows : (rest : List ℕ) → HasNoSemicolon rest → starts_with nat_eq rest (codes ";") ≡ false
none_follows [] h = refl
none_follows (c ∷ rest) h = let e = semicolon_by c (nat_eq 59 c) refl h in ap (λ (b : Bool). b && true) e

pub wrapper_back : (t rest : List ℕ) → IsWrapper t → (t ≡ [] → HasNoSemicolon rest) → wrapper_size (t ++ rest) ≡ Some (length t)
unfolding wrapper_size one_of_size
wrapper_back t rest (inl e) h =
    subst (λ (x : List ℕ). wrapper_size (x ++ rest) ≡ Some (length x)) (sym e)
    (ap (λ (b : Bool). cond b (one_of_size (codes ";0" ∷ codes ";1" ∷ []) rest) (Some 0)) (none_follows rest (h e)))
wrapper_back t rest (inr (inl e)) h = subst (λ (x : List ℕ). wrapper_size (x ++ rest) ≡ Some (length x)) (sym e) refl
wrapper_back t rest (inr (inr (inl e))) h = subst (λ (x : List ℕ). wrapper_size (x ++ rest) ≡ Some (length x)) (sym e) refl
wrapper_back t rest (inr (inr (inr none))) h = absurd none

no_semicolon : (rest : List ℕ) → starts_with nat_eq rest (codes ";") ≡ false → HasNoSemicolon rest
no_semicolon [] h = tt
no_semicolon (c ∷ rest) h = λ e. let t : nat_eq 59 c ≡ true = ap (nat_eq 59) e in let z : (nat_eq 59 c && true) ≡ true = ap (λ (b : Bool). b && true) t in absurd (cc)

wrapper_by : (t rest : List ℕ) (b : Bool) → starts_with nat_eq (t ++ rest) (codes ";") ≡ b
    → cond b (one_of_size (codes ";0" ∷ codes ";1" ∷ []) (t ++ rest)) (Some 0) ≡ Some (length t) → IsWrapper t × (t ≡ [] → HasNoSemicolon rest)
wrapper_by t rest true k h =
    let w = one_of_is (codes ";0" ∷ codes ";1" ∷ []) t rest h in
    (inr w, λ e. absurd (each_of (λ (x : List ℕ). x ≡ [] → ⊥) (codes ";0" ∷ codes ";1" ∷ []) t ((λ e. cc), ((λ e. cc), tt)) w e))
wrapper_by [] rest false k h = (inl refl, λ e. no_semicolon rest k)
wrapper_by (x ∷ xs) rest false k h = let z : ⊥ = let e : 0 ≡ length (x ∷ xs) = cc in omega (arith, e) in absurd z

pub wrapper_is : (t rest : List ℕ) → wrapper_size (t ++ rest) ≡ Some (length t) → IsWrapper t × (t ≡ [] → HasNoSemicolon rest)
unfolding wrapper_size
wrapper_is t rest h = wrapper_by t rest (starts_with nat_eq (t ++ rest) (codes ";")) refl h

-- ---- account numbers

prefix_run : (p : ℕ → Bool) (ds : List ℕ) (c : ℕ) (rest : List ℕ) → list_all p ds ≡ true → p c ≡ false → prefix_len p (ds ++ (c ∷ rest)) ≡ length ds
prefix_run p [] c rest h k = ap (λ (b : Bool). cond b (1 + prefix_len p rest) 0) k
prefix_run p (d ∷ ds) c rest h k =
    let more = prefix_run p ds c rest (and_right (p d) (list_all p ds) h) k in
    ap (λ (b : Bool). cond b (1 + prefix_len p (ds ++ (c ∷ rest))) 0) (and_left (p d) (list_all p ds) h) ∙ (let e : 1 + prefix_len p (ds ++ (c ∷ rest)) ≡ suc (length ds) = omega (arith, more) in e)

account_of : (k : ℕ) (x : List ℕ) → 12 ≤ k → k ≤ 19 → starts_with nat_eq (drop k x) (codes ";") ≡ true
    → only_if ((nat_le 12 k && nat_le k 19) && starts_with nat_eq (drop k x) (codes ";")) (k + 1) ≡ Some (k + 1)
account_of k x low high s = only_true _ (k + 1) (both (nat_le 12 k && nat_le k 19) _ (both (nat_le 12 k) _ (le_true 12 k low) (le_true k 19 high)) s)

pub account_back : (t rest : List ℕ) → IsAccount t → account_size (t ++ rest) ≡ Some (length t)
unfolding account_size
account_back t rest h =
    let n = length t - 1 in
    let low = h.least in
    let high = h.most in
    let within : n ≤ length t = omega arith in
    let parts : take n t ++ codes ";" ≡ t = ap (λ (x : List ℕ). take n t ++ x) (sym h.last) ∙ take-append-drop n t in
    let whole : t ++ rest ≡ take n t ++ (59 ∷ rest) = ap (λ (x : List ℕ). x ++ rest) (sym parts) ∙ append_assoc (take n t) (codes ";") rest in
    let count : length (take n t) ≡ n = length-take-le n t within in
    let run : prefix_len is_ascii_digit (t ++ rest) ≡ n = ap (prefix_len is_ascii_digit) whole ∙ (prefix_run is_ascii_digit (take n t) 59 rest h.digits refl ∙ count) in
    let after : drop n (t ++ rest) ≡ codes ";" ++ rest = drop-append-le n t rest within ∙ ap (λ (x : List ℕ). x ++ rest) h.last in
    let starts : starts_with nat_eq (drop n (t ++ rest)) (codes ";") ≡ true = ap (λ (x : List ℕ). starts_with nat_eq x (codes ";")) after in
    ap (λ (k : ℕ). only_if ((nat_le 12 k && nat_le k 19) && starts_with nat_eq (drop k (t ++ rest)) (codes ";")) (k + 1)) run
    ∙ (account_of n (t ++ rest) (omega arith) (omega arith) starts ∙ ap Some (let e : n + 1 ≡ length t = omega arith in e))

-- ---- twelve characters

twelve_long : (t rest : List ℕ) → length t ≡ 12 → nat_le 12 (length (t ++ rest)) ≡ true
twelve_long t rest e = le_true 12 (length (t ++ rest)) (omega (arith, e, length-append t rest))

pub filled_back : (k : ℕ) (t rest : List ℕ) → IsFilled k t → filled_size k (t ++ rest) ≡ Some (length t)
unfolding filled_size
filled_back k t rest h =
    let same : take 12 (t ++ rest) ≡ t = front t rest 12 (sym h.long) in
    only_true _ 12 (both (nat_le 12 (length (t ++ rest))) _ (twelve_long t rest h.long)
    (both (list_all is_ascii_digit (take k (take 12 (t ++ rest)))) _ (ap (λ (x : List ℕ). list_all is_ascii_digit (take k x)) same ∙ h.digits) (ap (λ (x : List ℕ). list_all is_f (drop k x)) same ∙ h.fill)))
    ∙ ap Some (sym h.long)

pub clear_back : (t rest : List ℕ) → IsFilled (prefix_len is_ascii_digit t) t → filled_size (prefix_len is_ascii_digit (take 12 (t ++ rest))) (t ++ rest) ≡ Some (length t)
clear_back t rest h =
    let same : take 12 (t ++ rest) ≡ t = front t rest 12 (sym h.long) in
    ap (λ (x : List ℕ). filled_size (prefix_len is_ascii_digit x) (t ++ rest)) same ∙ filled_back (prefix_len is_ascii_digit t) t rest h

eq_true : (a b : ℕ) → a ≡ b → (a == b) ≡ true
eq_true a b h = grind (arith, nat_tests)

pub validation_back : (t rest : List ℕ) → IsValidation t → validation_size (t ++ rest) ≡ Some (length t)
unfolding validation_size
validation_back t rest h =
    let same : take 12 (t ++ rest) ≡ t = front t rest 12 (sym h.long) in
    only_true _ 12 (both (nat_le 12 (length (t ++ rest))) _ (twelve_long t rest h.long)
    (both (list_all hex_or_n (take 12 (t ++ rest))) _ (ap (list_all hex_or_n) same ∙ h.characters) (ap (λ (x : List ℕ). count_by is_n x == 1) same ∙ eq_true (count_by is_n t) 1 h.one)))
    ∙ ap Some (sym h.long)

-- ---- the number of a set

pub set_back : (t rest : List ℕ) → is_set_text t ≡ true → set_size (t ++ rest) ≡ Some (length t)
unfolding set_size
set_back t rest h =
    let n : length t ≡ 3 = set_long t h in
    only_true _ 3 (ap is_set_text (front t rest 3 (sym n)) ∙ h) ∙ ap Some (sym n)

-- ---- data

pub take_back : (n : ℕ) (t rest : List ℕ) → length t ≡ n → take_size n (t ++ rest) ≡ Some (length t)
unfolding take_size
take_back n t rest e = only_true _ n (le_true n (length (t ++ rest)) (omega (arith, e, length-append t rest))) ∙ ap Some (sym e)

data_by : (input t rest : List ℕ) (n : ℕ) (b : Bool) → bytes_eq input (codes "1") ≡ b → IsData input t n → data_size b n (t ++ rest) ≡ Some (length t)
data_by input t rest n true k h =
    let even : n % 2 ≡ 0 = ap (λ (x : ℕ). x % 2) (sym h.long) ∙ h.even k in
    ap (λ (b : Bool). cond b (hex_size n (t ++ rest)) None) (eq_true (n % 2) 0 even) ∙ run_back is_ascii_hexdigit n t rest h.long (h.digits k)
data_by input t rest n false k h = take_back n t rest h.long

pub data_back : (input t rest : List ℕ) (n : ℕ) → IsData input t n → data_size (bytes_eq input (codes "1")) n (t ++ rest) ≡ Some (length t)
data_back input t rest n h = data_by input t rest n (bytes_eq input (codes "1")) refl h

pub length_back : (t rest : List ℕ) → IsLength t → one_of_size lengths (t ++ rest) ≡ Some (length t)
unfolding lengths one_of_size
length_back t rest h = one_of_back lengths t rest (refl, (refl, (refl, (refl, (refl, (refl, (refl, (refl, (refl, tt))))))))) h.text

-- ---- texts under a condition

when_by : (b : Bool) (size : Option ℕ) (t : List ℕ) → (b ≡ true → size ≡ Some (length t)) → (b ≡ false → t ≡ []) → when b size ≡ Some (length t)
when_by true size t h k = h refl
when_by false size t h k = ap (λ (x : List ℕ). Some (length x)) (sym (k refl))

pub when_back : (b : Bool) (size : Option ℕ) (t : List ℕ) (P : Type 0) → IsWhere b t P → (b ≡ true → P → size ≡ Some (length t)) → when b size ≡ Some (length t)
when_back b size t P w h = when_by b size t (λ e. h e (w.present e)) w.absent

-- ---- words of the console

word_prefix : (t rest : List ℕ) → list_all is_no_space t ≡ true → EndsWord rest → prefix_len is_no_space (t ++ rest) ≡ length t
word_prefix [] [] h k = refl
word_prefix [] (c ∷ rest) h k = ap (λ (x : ℕ). prefix_len is_no_space (x ∷ rest)) k
word_prefix (x ∷ xs) rest h k =
    let more = word_prefix xs rest (and_right (is_no_space x) (list_all is_no_space xs) h) k in
    ap (λ (b : Bool). cond b (1 + prefix_len is_no_space (xs ++ rest)) 0) (and_left (is_no_space x) (list_all is_no_space xs) h)
    ∙ (let e : 1 + prefix_len is_no_space (xs ++ rest) ≡ suc (length xs) = omega (arith, more) in e)

pub token_back : (test : List ℕ → Bool) (t rest : List ℕ) → list_all is_no_space t ≡ true → test t ≡ true → EndsWord rest → token_size test (t ++ rest) ≡ Some (length t)
unfolding token_size
token_back test t rest h p k =
    let run = word_prefix t rest h k in
    ap (λ (n : ℕ). only_if (test (take n (t ++ rest))) n) run ∙ only_true _ (length t) (ap test (front t rest (length t) refl) ∙ p)

space_by : (c n : ℕ) (b : Bool) → is_no_space c ≡ b → cond b (1 + n) 0 ≡ 0 → c ≡ 32
space_by c n true h k = absurd (omega (arith, k))
space_by c n false h k = grind (arith, nat_tests)

further_by : (n m : ℕ) (b : Bool) → cond b (1 + n) 0 ≡ suc m → n ≡ m
further_by n m true h = omega (arith, h)
further_by n m false h = absurd (omega (arith, h))

word_end : (t rest : List ℕ) → prefix_len is_no_space (t ++ rest) ≡ length t → EndsWord rest
word_end [] [] h = tt
word_end [] (c ∷ rest) h = space_by c (prefix_len is_no_space rest) (is_no_space c) refl h
word_end (x ∷ xs) rest h = word_end xs rest (further_by (prefix_len is_no_space (xs ++ rest)) (length xs) (is_no_space x) h)

token_by : (b : Bool) (k n : ℕ) → only_if b k ≡ Some n → (b ≡ true) × (k ≡ n)
token_by true k n h = (refl, cc)
token_by false k n h = let z : ⊥ = cc in absurd z

pub token_is : (test : List ℕ → Bool) (t rest : List ℕ) → token_size test (t ++ rest) ≡ Some (length t) → (test t ≡ true) × EndsWord rest
unfolding token_size
token_is test t rest h =
    let k = prefix_len is_no_space (t ++ rest) in
    let p = token_by (test (take k (t ++ rest))) k (length t) h in
    (ap test (sym (front t rest k p.1)) ∙ p.0, word_end t rest p.1)

all_so : (p q : ℕ → Bool) → ((c : ℕ) → p c ≡ true → q c ≡ true) → (xs : List ℕ) → list_all p xs ≡ true → list_all q xs ≡ true
all_so p q f [] h = refl
all_so p q f (x ∷ xs) h = both (q x) _ (f x (and_left (p x) (list_all p xs) h)) (all_so p q f xs (and_right (p x) (list_all p xs) h))

visible_no_space : (c : ℕ) → is_visible c ≡ true → is_no_space c ≡ true
visible_no_space c h = grind (arith, nat_tests)

digit_no_space : (c : ℕ) → is_ascii_digit c ≡ true → is_no_space c ≡ true
digit_no_space c h = grind (arith, nat_tests)

pub word_spaceless : (t : List ℕ) → is_word t ≡ true → list_all is_no_space t ≡ true
word_spaceless t h = all_so is_visible is_no_space visible_no_space t (and_right (nat_le (length t) 64) _ (and_right (nat_le 1 (length t)) _ h))

or_by : (a b : Bool) → (a || b) ≡ true → (a ≡ true) ⊎ (b ≡ true)
or_by true b h = inl refl
or_by false b h = inr h

same_spaceless : (t w : List ℕ) → list_all is_no_space w ≡ true → bytes_eq t w ≡ true → list_all is_no_space t ≡ true
same_spaceless t w h k = ap (list_all is_no_space) ((bytes_eq-Decides t w).0 k) ∙ h

minutes_by : (t : List ℕ) (a b c : Bool) → (bytes_eq t (codes "0") ≡ true) ⊎ (((a && list_all is_ascii_digit t) && (b && c)) ≡ true) → list_all is_no_space t ≡ true
minutes_by t a b c (inl h) = same_spaceless t (codes "0") refl h
minutes_by t a b c (inr h) = all_so is_ascii_digit is_no_space digit_no_space t (and_right a _ (and_left (a && list_all is_ascii_digit t) _ h))

pub minutes_spaceless : (t : List ℕ) → is_minutes t ≡ true → list_all is_no_space t ≡ true
minutes_spaceless t h =
    minutes_by t (nat_le 1 (length t) && nat_le (length t) 4) (not (starts_with nat_eq t (codes "0"))) (nat_le (decimal_from 0 t) 720) (or_by (bytes_eq t (codes "0")) _ h)

module _ {X : Type 0} (p q : X → Bool) where
  found_by : (xs : List X) → list_all q xs ≡ true → is_some (find p xs) ≡ true → (x : X) × ((p x ≡ true) × (q x ≡ true))
  found_by [] all h = let z : ⊥ = cc in absurd z
  found_by (y ∷ ys) all h =
      elim (p y) as (λ b. p y ≡ b → is_some (cond b (Some y) (find p ys)) ≡ true → (x : X) × ((p x ≡ true) × (q x ≡ true))) [
        | true ↦ λ py f. (y, (py, and_left (q y) (list_all q ys) all))
        | false ↦ λ py f. found_by ys (and_right (q y) (list_all q ys) all) f
      ] refl h

texts_spaceless : list_all (λ (a : Activity). list_all is_no_space (text_of a)) activities ≡ true
unfolding activities
texts_spaceless = refl

pub activity_spaceless : (t : List ℕ) → is_activity t ≡ true → list_all is_no_space t ≡ true
unfolding activity_of
activity_spaceless t h =
    let f = found_by (λ (a : Activity). bytes_eq t (text_of a)) (λ (a : Activity). list_all is_no_space (text_of a)) activities texts_spaceless h in
    same_spaceless t (text_of f.0) f.1.1 f.1.0

star_by : (t : List ℕ) → (bytes_eq t (codes "*") ≡ true) ⊎ (is_activity t ≡ true) → list_all is_no_space t ≡ true
star_by t (inl h) = same_spaceless t (codes "*") refl h
star_by t (inr h) = activity_spaceless t h

pub star_spaceless : (t : List ℕ) → is_activity_or_star t ≡ true → list_all is_no_space t ≡ true
star_spaceless t h = star_by t (or_by (bytes_eq t (codes "*")) (is_activity t) h)

-- ---- just one text

word_by : (b : Bool) (w t rest : List ℕ) → only_if b (length w) ≡ Some (length t) → (b ≡ true → length w ≡ length t → t ≡ w) → t ≡ w
word_by true w t rest h f = f refl cc
word_by false w t rest h f = let z : ⊥ = cc in absurd z

pub just_is : (w t rest : List ℕ) → (starts_with nat_eq (t ++ rest) w ≡ true → length w ≡ length t → t ≡ w) → word_size w (t ++ rest) ≡ Some (length t) → t ≡ w
unfolding word_size
just_is w t rest f h = word_by (starts_with nat_eq (t ++ rest) w) w t rest h f
