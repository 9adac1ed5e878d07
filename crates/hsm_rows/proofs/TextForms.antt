-- What a text of a form is, where it stands.
use Rattle.std.proofs.Common.{◌≡◌, ℕ, suc, Bool, true, false, ◌&&◌, ◌+◌, ◌-◌, ◌^◌, ◌≤◌, ◌<◌, List, [], ◌∷◌, ◌++◌, length, take, drop, Option, Some, None, refl, arith, subst, cond, sym, ap, ap₂, ◌∙◌, ◌⊎◌, inl, inr}
use Rattle.std.specs.Prelude.{codes, nat_eq, nat_le, count_by, ◌==◌, ◌%◌}
use Rattle.std.specs.List.{list_all, prefix_len, starts_with, AllByRecursion}
use Rattle.std.specs.Option.{option_map, option_or}
use Rattle.std.specs.Char.{is_ascii_digit, is_ascii_hexdigit}
use Rattle.std.specs.Str.{bytes_eq}
use Rattle.std.proofs.Math.Seq.{take-append_seam}
use Rattle.std.proofs.lemmas.List.{take-append-le, drop-append-le}
use Rattle.std.proofs.lemmas.Bool.Decides.{nat_tests}
use Rattle.std.proofs.lemmas.Grind.{common_steps}
use Rattle.hsm_types.specs.Schemes.{scheme_parts}
use Rattle.hsm_nibbles.specs.Characters.{digit_value}
use Rattle.hsm_text.specs.KeyTexts.{scheme_of}
use Rattle.hsm_text.specs.Sizes.{only_if, run_size, take_size, one_of_size, tagged_size, key_size, hex_size}
use Rattle.hsm_text.specs.declared.keys.KeyForm.TheVariants as key
use Rattle.hsm_rows.specs.Forms.{when, account_size, filled_size, validation_size, data_size, hex_value, hex_or_n, is_n, is_f, is_set_text, set_size, lengths, two_digit_value}
use Rattle.hsm_rows.specs.Standing.{AreDigits, IsOneOf, IsLength, IsAccount, IsFilled, IsValidation, IsCount, IsData}
use Rattle.hsm_rows.proofs.Within.{and_left, and_right}

only_some : (b : Bool) (k n : ℕ) → only_if b k ≡ Some n → (b ≡ true) × (k ≡ n)
only_some true k n h = (refl, cc)
only_some false k n h = let z : ⊥ = cc in absurd z

-- the front of a text before its rest
pub front : (t rest : List ℕ) (n : ℕ) → n ≡ length t → take n (t ++ rest) ≡ t
front t rest n h = ap (λ (k : ℕ). take k (t ++ rest)) h ∙ take-append_seam t rest

-- a run of characters that pass the test
pub run_text : (test : ℕ → Bool) (k : ℕ) (t rest : List ℕ) → run_size test k (t ++ rest) ≡ Some (length t) → (length t ≡ k) × (list_all test t ≡ true)
unfolding run_size
run_text test k t rest h =
    let s = only_some (nat_le k (length (t ++ rest)) && list_all test (take k (t ++ rest))) k (length t) h in
    (sym s.1, ap (list_all test) (sym (front t rest k s.1)) ∙ and_right (nat_le k (length (t ++ rest))) _ s.0)

pub starts_text : (t rest w : List ℕ) → starts_with nat_eq (t ++ rest) w ≡ true → length w ≡ length t → t ≡ w
starts_text [] rest [] h e = refl
starts_text [] rest (y ∷ ys) h e = let z : ⊥ = omega arith in absurd z
starts_text (x ∷ xs) rest [] h e = let z : ⊥ = omega arith in absurd z
starts_text (x ∷ xs) rest (y ∷ ys) h e =
    let same : y ≡ x = let b = and_left (nat_eq y x) (starts_with nat_eq (xs ++ rest) ys) h in grind (arith, nat_tests) in
    let more = starts_text xs rest ys (and_right (nat_eq y x) (starts_with nat_eq (xs ++ rest) ys) h) (omega arith) in
    ap₂ (λ (a : ℕ) (b : List ℕ). a ∷ b) (sym same) more

one_of_by : (P : List ℕ → Type 0) (w : List ℕ) (ws t rest : List ℕ) (b : Bool) (more : Option ℕ) → P w
    → (more ≡ Some (length t) → P t) → starts_with nat_eq (t ++ rest) w ≡ b → cond b (Some (length w)) more ≡ Some (length t) → P t
one_of_by P w ws t rest true more p q k h = subst P (sym (starts_text t rest w k (cc))) p
one_of_by P w ws t rest false more p q k h = q h

-- one of the texts, of each of which P holds
pub one_of_text : (P : List ℕ → Type 0) (ws : List (List ℕ)) (t rest : List ℕ) → AllByRecursion P ws → one_of_size ws (t ++ rest) ≡ Some (length t) → P t
unfolding one_of_size
one_of_text P [] t rest p h = let z : ⊥ = cc in absurd z
one_of_text P (w ∷ ws) t rest p h =
    one_of_by P w [] t rest (starts_with nat_eq (t ++ rest) w) (one_of_size ws (t ++ rest)) p.0 (one_of_text P ws t rest p.1) refl h

member_more : (w : List ℕ) (ws xs : List (List ℕ)) → AllByRecursion (IsOneOf ws) xs → AllByRecursion (IsOneOf (w ∷ ws)) xs
member_more w ws [] h = tt
member_more w ws (x ∷ xs) h = (inr h.0, member_more w ws xs h.1)

members : (ws : List (List ℕ)) → AllByRecursion (IsOneOf ws) ws
members [] = tt
members (w ∷ ws) = (inl refl, member_more w ws ws (members ws))

pub one_of_is : (ws : List (List ℕ)) (t rest : List ℕ) → one_of_size ws (t ++ rest) ≡ Some (length t) → IsOneOf ws t
one_of_is ws t rest h = one_of_text (IsOneOf ws) ws t rest (members ws) h

pub each_of : (P : List ℕ → Type 0) (ws : List (List ℕ)) (t : List ℕ) → AllByRecursion P ws → IsOneOf ws t → P t
each_of P [] t all h = absurd h
each_of P (w ∷ ws) t all (inl e) = subst P (sym e) all.0
each_of P (w ∷ ws) t all (inr h) = each_of P ws t all.1 h

-- the facts of a PIN's length
abbrev IsTwoDigits : List ℕ → Type 0
IsTwoDigits t = AreDigits 2 t × ((4 ≤ two_digit_value t) × (two_digit_value t ≤ 12))

length_facts : AllByRecursion IsTwoDigits lengths
unfolding lengths
length_facts = (
  ((refl, refl), (omega arith, omega arith)),
  (
    ((refl, refl), (omega arith, omega arith)),
    (
      ((refl, refl), (omega arith, omega arith)),
      (
        ((refl, refl), (omega arith, omega arith)),
        (
          ((refl, refl), (omega arith, omega arith)),
          (
            ((refl, refl), (omega arith, omega arith)),
            (
              ((refl, refl), (omega arith, omega arith)),
              (((refl, refl), (omega arith, omega arith)), (((refl, refl), (omega arith, omega arith)), tt)),
            ),
          ),
        ),
      ),
    ),
  ),
)

-- a PIN's length
pub length_text : (t rest : List ℕ) → one_of_size lengths (t ++ rest) ≡ Some (length t) → IsLength t
unfolding lengths
length_text t rest h =
    let o = one_of_is lengths t rest h in
    let f = each_of IsTwoDigits lengths t length_facts o in
    record { text = o; digits = f.0; least = f.1.0; most = f.1.1 }

passed_by : (p : ℕ → Bool) (x : ℕ) (xs : List ℕ) (b : Bool) → p x ≡ b → list_all p (take (prefix_len p xs) xs) ≡ true → list_all p (take (cond b (1 + prefix_len p xs) 0) (x ∷ xs)) ≡ true
passed_by p x xs true h more = let e : 1 + prefix_len p xs ≡ suc (prefix_len p xs) = omega arith in rw e (rw h more)
passed_by p x xs false h more = refl

-- the front that passes a test
passed_front : (p : ℕ → Bool) (xs : List ℕ) → list_all p (take (prefix_len p xs) xs) ≡ true
passed_front p [] = refl
passed_front p (x ∷ xs) = passed_by p x xs (p x) refl (passed_front p xs)

account_by : (k : ℕ) (t rest : List ℕ) → list_all is_ascii_digit (take k (t ++ rest)) ≡ true → nat_le 12 k ≡ true → nat_le k 19 ≡ true
    → starts_with nat_eq (drop k (t ++ rest)) (codes ";") ≡ true → k + 1 ≡ length t → IsAccount t
account_by k t rest d a b s e =
    let low : 12 ≤ k = grind (arith, nat_tests) in
    let high : k ≤ 19 = grind (arith, nat_tests) in
    let at : length t - 1 ≡ k = omega arith in
    let within : k ≤ length t = omega arith in
    let left : length (drop k t) ≡ 1 = grind (arith, common_steps) in
    let starts : starts_with nat_eq (drop k t ++ rest) (codes ";") ≡ true = ap (λ (x : List ℕ). starts_with nat_eq x (codes ";")) (sym (drop-append-le k t rest within)) ∙ s in
    record {
      least = omega arith;
      most = omega arith;
      digits = ap (λ (n : ℕ). list_all is_ascii_digit (take n t)) at ∙ (ap (list_all is_ascii_digit) (sym (take-append-le k t rest within)) ∙ d);
      last = ap (λ (n : ℕ). drop n t) at ∙ starts_text (drop k t) rest (codes ";") starts (sym left);
    }

-- an account number
pub account_text : (t rest : List ℕ) → account_size (t ++ rest) ≡ Some (length t) → IsAccount t
unfolding account_size
account_text t rest h =
    let k = prefix_len is_ascii_digit (t ++ rest) in
    let s = only_some ((nat_le 12 k && nat_le k 19) && starts_with nat_eq (drop k (t ++ rest)) (codes ";")) (k + 1) (length t) h in
    let range = and_left (nat_le 12 k && nat_le k 19) _ s.0 in
    account_by k t rest (passed_front is_ascii_digit (t ++ rest)) (and_left (nat_le 12 k) _ range) (and_right (nat_le 12 k) _ range) (and_right (nat_le 12 k && nat_le k 19) _ s.0) s.1

-- digits and F to twelve characters
pub filled_text : (k : ℕ) (t rest : List ℕ) → filled_size k (t ++ rest) ≡ Some (length t) → IsFilled k t
unfolding filled_size
filled_text k t rest h =
    let s = only_some (nat_le 12 (length (t ++ rest)) && (list_all is_ascii_digit (take k (take 12 (t ++ rest))) && list_all is_f (drop k (take 12 (t ++ rest))))) 12 (length t) h in
    let both = and_right (nat_le 12 (length (t ++ rest))) _ s.0 in
    let same = front t rest 12 s.1 in
    record {
      long = sym s.1;
      digits = ap (λ (x : List ℕ). list_all is_ascii_digit (take k x)) (sym same) ∙ and_left (list_all is_ascii_digit (take k (take 12 (t ++ rest)))) _ both;
      fill = ap (λ (x : List ℕ). list_all is_f (drop k x)) (sym same) ∙ and_right (list_all is_ascii_digit (take k (take 12 (t ++ rest)))) _ both;
    }

-- a clear PIN, whose digits are those at its front
pub clear_text : (t rest : List ℕ) → filled_size (prefix_len is_ascii_digit (take 12 (t ++ rest))) (t ++ rest) ≡ Some (length t) → IsFilled (prefix_len is_ascii_digit t) t
clear_text t rest h =
    let f = filled_text (prefix_len is_ascii_digit (take 12 (t ++ rest))) t rest h in
    let same = front t rest 12 (sym f.long) in
    let P : List ℕ → Type 0 = λ x. IsFilled (prefix_len is_ascii_digit x) t in
    subst P same f

-- validation data
pub validation_text : (t rest : List ℕ) → validation_size (t ++ rest) ≡ Some (length t) → IsValidation t
unfolding validation_size
validation_text t rest h =
    let s = only_some (nat_le 12 (length (t ++ rest)) && (list_all hex_or_n (take 12 (t ++ rest)) && count_by is_n (take 12 (t ++ rest)) == 1)) 12 (length t) h in
    let both = and_right (nat_le 12 (length (t ++ rest))) _ s.0 in
    let same = front t rest 12 s.1 in
    let one : (count_by is_n t == 1) ≡ true = ap (λ (x : List ℕ). count_by is_n x == 1) (sym same) ∙ and_right (list_all hex_or_n (take 12 (t ++ rest))) _ both in
    record {
      long = sym s.1;
      characters = ap (list_all hex_or_n) (sym same) ∙ and_left (list_all hex_or_n (take 12 (t ++ rest))) _ both;
      one = grind (arith, nat_tests);
    }

tag_there : (t rest : List ℕ) → length t ≡ 33 → starts_with nat_eq (t ++ rest) (codes "U") ≡ true → take 1 t ≡ codes "U"
tag_there [] rest e h = let z : ⊥ = omega (arith, e) in absurd z
tag_there (x ∷ xs) rest e h = let b = and_left (nat_eq 85 x) true h in let same : x ≡ 85 = grind (arith, nat_tests) in ap (λ (a : ℕ). a ∷ []) same

one_more : (k : Option ℕ) (n : ℕ) → (k ≡ None) ⊎ (k ≡ Some 32) → option_map (λ k. k + 1) k ≡ Some n → n ≡ 33
one_more None n p h = let z : ⊥ = cc in absurd z
one_more (Some m) n (inl p) h = let z : ⊥ = cc in absurd z
one_more (Some m) n (inr p) h = let a : m ≡ 32 = cc in let b : m + 1 ≡ n = cc in omega (arith, a, b)

none_or : (b : Bool) (k : ℕ) → (only_if b k ≡ None) ⊎ (only_if b k ≡ Some k)
none_or true k = inr refl
none_or false k = inl refl

tagged_pair : (t rest : List ℕ) (b : Bool) → starts_with nat_eq (t ++ rest) (codes "U") ≡ b → cond b (option_map (λ k. k + 1) (hex_size 32 (drop 1 (t ++ rest)))) None ≡ Some (length t)
    → (length t ≡ 33) × (take 1 t ≡ codes "U")
unfolding run_size
tagged_pair t rest true k h = let e = one_more (hex_size 32 (drop 1 (t ++ rest))) (length t) (none_or _ 32) h in (e, tag_there t rest e k)
tagged_pair t rest false k h = let z : ⊥ = cc in absurd z

untagged_parts : (t : List ℕ) → length t ≡ 32 → scheme_parts (scheme_of t) ≡ 2
unfolding scheme_of
untagged_parts t e = rw e refl

tagged_parts : (t : List ℕ) → length t ≡ 33 → take 1 t ≡ codes "U" → scheme_parts (scheme_of t) ≡ 2
unfolding scheme_of
tagged_parts t e u = rw (e, u) refl

pair_by : (t rest : List ℕ) (o : Option ℕ) → hex_size 32 (t ++ rest) ≡ o → option_or o (tagged_size (codes "U") 32 (t ++ rest)) ≡ Some (length t) → scheme_parts (scheme_of t) ≡ 2
unfolding tagged_size
pair_by t rest None k h = let p = tagged_pair t rest (starts_with nat_eq (t ++ rest) (codes "U")) refl h in tagged_parts t p.0 p.1
pair_by t rest (Some n) k h = untagged_parts t (run_text is_ascii_hexdigit 32 t rest (k ∙ h)).0

-- a key text of two parts
pub pair_text : (t rest : List ℕ) → key_size key.P (t ++ rest) ≡ Some (length t) → scheme_parts (scheme_of t) ≡ 2
unfolding key_size
pair_text t rest h = pair_by t rest (hex_size 32 (t ++ rest)) refl h

value_bound : (c : ℕ) → is_ascii_hexdigit c ≡ true → digit_value c < 16
value_bound c h = grind (arith, nat_tests)

value_below : (t : List ℕ) → length t ≡ 4 → list_all is_ascii_hexdigit t ≡ true → hex_value t < 2 ^ 16
unfolding hex_value
value_below [] e h = omega arith
value_below (a ∷ []) e h = omega arith
value_below (a ∷ b ∷ []) e h = omega arith
value_below (a ∷ b ∷ c ∷ []) e h = omega arith
value_below (a ∷ b ∷ c ∷ d ∷ []) e h =
    let all = and_right (is_ascii_hexdigit a) (list_all is_ascii_hexdigit (b ∷ c ∷ d ∷ [])) h in
    let all' = and_right (is_ascii_hexdigit b) (list_all is_ascii_hexdigit (c ∷ d ∷ [])) all in
    let all'' = and_right (is_ascii_hexdigit c) (list_all is_ascii_hexdigit (d ∷ [])) all' in
    let w : digit_value a < 16 = value_bound a (and_left (is_ascii_hexdigit a) _ h) in
    let x : digit_value b < 16 = value_bound b (and_left (is_ascii_hexdigit b) _ all) in
    let y : digit_value c < 16 = value_bound c (and_left (is_ascii_hexdigit c) _ all') in
    let z : digit_value d < 16 = value_bound d (and_left (is_ascii_hexdigit d) _ all'') in
    omega (arith, w, x, y, z)
value_below (a ∷ b ∷ c ∷ d ∷ f ∷ more) e h = let z : ⊥ = omega arith in absurd z

-- a count
pub count_text : (t rest : List ℕ) → hex_size 4 (t ++ rest) ≡ Some (length t) → IsCount t
count_text t rest h = let d = run_text is_ascii_hexdigit 4 t rest h in record { digits = d; most = value_below t d.0 d.1 }

-- `%` and two decimal digits
pub set_text_is : (t rest : List ℕ) → set_size (t ++ rest) ≡ Some (length t) → is_set_text t ≡ true
unfolding set_size
set_text_is t rest h =
    let s = only_some (is_set_text (take 3 (t ++ rest))) 3 (length t) h in
    ap is_set_text (sym (front t rest 3 s.1)) ∙ s.0

-- n bytes
pub take_text : (n : ℕ) (t rest : List ℕ) → take_size n (t ++ rest) ≡ Some (length t) → length t ≡ n
unfolding take_size
take_text n t rest h = sym (only_some (nat_le n (length (t ++ rest))) n (length t) h).1

even_by : (n : ℕ) (b : Bool) (size : Option ℕ) (m : ℕ) → (n % 2 == 0) ≡ b → cond b size None ≡ Some m → (n % 2 ≡ 0) × (size ≡ Some m)
even_by n true size m k h = (grind (arith, nat_tests), h)
even_by n false size m k h = let z : ⊥ = cc in absurd z

data_by : (input t rest : List ℕ) (n : ℕ) (b : Bool) → bytes_eq input (codes "1") ≡ b → data_size b n (t ++ rest) ≡ Some (length t) → IsData input t n
data_by input t rest n true k h =
    let e = even_by n (n % 2 == 0) (hex_size n (t ++ rest)) (length t) refl h in
    let d = run_text is_ascii_hexdigit n t rest e.1 in
    record { long = d.0; digits = λ k. d.1; even = λ k. ap (λ (x : ℕ). x % 2) d.0 ∙ e.0 }
data_by input t rest n false k h = record { long = take_text n t rest h; digits = λ e. cc; even = λ e. cc }

-- data
pub data_text : (input t rest : List ℕ) (n : ℕ) → data_size (bytes_eq input (codes "1")) n (t ++ rest) ≡ Some (length t) → IsData input t n
data_text input t rest n h = data_by input t rest n (bytes_eq input (codes "1")) refl h

-- a text of a form that has a condition
pub when_text : (b : Bool) (size : Option ℕ) (t : List ℕ) (P : Type 0) → when b size ≡ Some (length t) → (size ≡ Some (length t) → P) → (b ≡ true → P) × (b ≡ false → t ≡ [])
when_text true size t P h p = (λ e. p h, λ e. cc)
when_text false size [] P h p = (λ e. cc, λ e. refl)
when_text false size (x ∷ xs) P h p = let z : ⊥ = let e : 0 ≡ length (x ∷ xs) = cc in omega (arith, e) in absurd z
