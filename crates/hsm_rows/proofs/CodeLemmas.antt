-- Codes among others.
use Rattle.std.proofs.Common.{◌≡◌, ℕ, Bool, true, false, ◌==◌, ◌||◌, List, [], ◌∷◌, ◌++◌, map, flat_map, length, suc, ◌<◌, ◌≤◌, refl, sym, ap, inl, inr, arith, append_assoc, append-nil, subst, ◌+◌, ◌-◌, length-append, ◌∙◌}
use Rattle.std.proofs.lemmas.List.{length-map, map-append}
use Rattle.std.specs.Prelude.{filter, nat_le}
use Rattle.std.specs.List.{list_all, list_any, range_with_len}
use Rattle.hsm_rows.specs.declared.row.Code.{Code}
use Rattle.hsm_rows.specs.Reading.{is_console}
use Rattle.hsm_rows.specs.Rules.{RowRules}
use Rattle.hsm_rows.proofs.RowLemmas.{le_holds, passes}
use Rattle.hsm_rows.specs.declared.row.Row.{Row}
use Rattle.hsm_rows.specs.declared.row.Field.{Field}
use Rattle.hsm_rows.specs.Table.{RowShape, rules_of, shape_of, host_rows, console_rows}
use Rattle.hsm_rows.specs.Codes.{IsRow, codes_from, check_codes, codes_of, data_codes, is_among, key_codes, names, where_any, where_some}

or_again : (a b c : Bool) → (a || (b || c)) ≡ ((a || b) || c)
or_again true b c = refl
or_again false b c = refl

pub among_both : (code : ℕ) (a b : List ℕ) → is_among code (a ++ b) ≡ (is_among code a || is_among code b)
among_both code [] b = refl
among_both code (other ∷ a) b = ap (λ (t : Bool). code == other || t) (among_both code a b) ∙ or_again (code == other) (is_among code a) (is_among code b)

pub among_mapped : {A : Type 0} (f : A → ℕ) (code : ℕ) (xs : List A) → is_among code (map f xs) ≡ list_any (λ x. code == f x) xs
among_mapped f code [] = refl
among_mapped f code (x ∷ xs) = ap (λ (t : Bool). code == f x || t) (among_mapped f code xs)

pub among_flat : {A : Type 0} (f : A → List ℕ) (code : ℕ) (xs : List A) → is_among code (flat_map f xs) ≡ list_any (λ x. is_among code (f x)) xs
among_flat f code [] = refl
among_flat f code (x ∷ xs) = among_both code (f x) (flat_map f xs) ∙ ap (λ (t : Bool). is_among code (f x) || t) (among_flat f code xs)

-- the parts of the codes of checks in the order in which the code looks
in_order : (k a p b n d c : Bool) → (k || (a || (p || ((b || n) || (d || c))))) ≡ (k || ((a || (b || n)) || ((p || c) || d)))
in_order true a p b n d c = refl
in_order false true p b n d c = refl
in_order false false true true n d c = refl
in_order false false true false true d c = refl
in_order false false true false false d c = refl
in_order false false false true n d c = refl
in_order false false false false true d c = refl
in_order false false false false false true true = refl
in_order false false false false false true false = refl
in_order false false false false false false c = or_false c where
  or_false : (c : Bool) → c ≡ (c || false)
  or_false true = refl
  or_false false = refl

pub among_checks : (code : ℕ) (rules : RowRules) → is_among code (check_codes rules) ≡
    (code == 13 || (list_any (λ key. is_among code (key_codes key)) rules.keys
    || ((is_among code (where_any rules.acts 29) || (is_among code (where_any rules.acts 17) || is_among code (where_any rules.needs 17)))
    || ((is_among code (where_some rules.parts_differ 75) || is_among code (where_some rules.compared 1))
    || list_any (λ check. is_among code (data_codes rules.pin check)) rules.checks))))
among_checks code rules =
    let k = flat_map key_codes rules.keys in
    let a = where_any rules.acts 29 in
    let p = where_some rules.parts_differ 75 in
    let b = where_any rules.acts 17 in
    let n = where_any rules.needs 17 in
    let d = flat_map (data_codes rules.pin) rules.checks in
    let c = where_some rules.compared 1 in
    rw (sym (among_flat key_codes code rules.keys), sym (among_flat (data_codes rules.pin) code rules.checks))
    (ap (λ (t : Bool). code == 13 || t) (among_both code k (a ++ (p ++ ((b ++ n) ++ (d ++ c))))
    ∙ (ap (λ (t : Bool). is_among code k || t) (among_both code a (p ++ ((b ++ n) ++ (d ++ c)))
    ∙ ap (λ (t : Bool). is_among code a || t) (among_both code p ((b ++ n) ++ (d ++ c))
    ∙ ap (λ (t : Bool). is_among code p || t) (among_both code (b ++ n) (d ++ c)
    ∙ rw (among_both code b n, among_both code d c) refl)))
    ∙ in_order (is_among code k) (is_among code a) (is_among code p) (is_among code b) (is_among code n) (is_among code d) (is_among code c))))

pub among_named : (code : ℕ) (row : Row) (rules : RowRules) → rules ≡ rules_of (shape_of row) → names (shape_of row) code ≡
    (code == 0 || (code == 15 || (list_any (λ field. code == field.code.0) row.fields.now || is_among code (check_codes rules))))
unfolding names
among_named code row rules same =
    rw same (ap (λ (t : Bool). code == 0 || (code == 15 || t))
    (among_both code (map (λ (f : Field). f.code.0) row.fields.now) (check_codes (rules_of (shape_of row)))
    ∙ ap (λ (t : Bool). t || is_among code (check_codes (rules_of (shape_of row)))) (among_mapped (λ (f : Field). f.code.0) code row.fields.now)))

from_more : (i : ℕ) → i < 100 → codes_from i ≡ i ∷ codes_from (i + 1)
unfolding codes_from
from_more i h = go (100 - i) (100 - (i + 1)) (omega (arith, h)) where
  go : (n m : ℕ) → n ≡ suc m → range_with_len i n ≡ i ∷ range_with_len (i + 1) m
  go n m e = rw e refl

from_end : codes_from 100 ≡ []
unfolding codes_from
from_end = refl

-- the code that is named joins those that were found
pub step_named : (p : ℕ → Bool) (found : List Code) (i : ℕ) → i < 100 → p i ≡ true
    → map (λ (c : Code). c.0) found ++ filter p (codes_from i) ≡ filter p (codes_from 0)
    → map (λ (c : Code). c.0) (found ++ record { 0 = i } ∷ []) ++ filter p (codes_from (i + 1)) ≡ filter p (codes_from 0)
step_named p found i h named e =
    let split = subst (λ (left : List ℕ). map (λ (c : Code). c.0) found ++ filter p left ≡ filter p (codes_from 0)) (from_more i h) e in
    let taken = rw named at split in
    rw map-append (append_assoc (map (λ (c : Code). c.0) found) (i ∷ []) (filter p (codes_from (i + 1))) ∙ taken)

pub step_other : (p : ℕ → Bool) (found : List Code) (i : ℕ) → i < 100 → p i ≡ false
    → map (λ (c : Code). c.0) found ++ filter p (codes_from i) ≡ filter p (codes_from 0)
    → map (λ (c : Code). c.0) found ++ filter p (codes_from (i + 1)) ≡ filter p (codes_from 0)
step_other p found i h other e =
    let split = subst (λ (left : List ℕ). map (λ (c : Code). c.0) found ++ filter p left ≡ filter p (codes_from 0)) (from_more i h) e in
    rw other at split

-- after the last code all are found
pub all_found : (p : ℕ → Bool) (found : List Code) (i : ℕ) → 100 ≤ i → i ≤ 100
    → map (λ (c : Code). c.0) found ++ filter p (codes_from i) ≡ filter p (codes_from 0) → map (λ (c : Code). c.0) found ≡ filter p (codes_from 0)
all_found p found i low high e =
    let at_end = subst (λ (n : ℕ). map (λ (c : Code). c.0) found ++ filter p (codes_from n) ≡ filter p (codes_from 0)) (omega (arith, low, high)) e in
    let none = subst (λ (left : List ℕ). map (λ (c : Code). c.0) found ++ filter p left ≡ filter p (codes_from 0)) from_end at_end in
    sym (append-nil (map (λ (c : Code). c.0) found)) ∙ none

-- there is room for it
pub code_room : (p : ℕ → Bool) (found : List Code) (i : ℕ) → i < 100 → p i ≡ true
    → map (λ (c : Code). c.0) found ++ filter p (codes_from i) ≡ filter p (codes_from 0) → length (filter p (codes_from 0)) ≤ 16 → length found < 16
code_room p found i h named e few =
    let split = subst (λ (left : List ℕ). map (λ (c : Code). c.0) found ++ filter p left ≡ filter p (codes_from 0)) (from_more i h) e in
    let taken = rw named at split in
    omega (arith, few, simp (length-append, length-map) at (ap length taken))

-- the codes of a row that is the host's
pub host_codes : (row : RowShape) → is_console row ≡ false → codes_of row ≡ filter (names row) (codes_from 0)
unfolding codes_of
host_codes row side = rw side refl

pub console_codes : (row : RowShape) → is_console row ≡ true → codes_of row ≡ []
unfolding codes_of
console_codes row side = rw side refl

-- no row of the table has more than 16
abbrev has_few_codes : RowShape → Bool
has_few_codes row = nat_le (length (codes_of row)) 16

hosts_few : list_all has_few_codes host_rows ≡ true
unfolding names codes_from codes_of host_rows
hosts_few = refl

consoles_few : list_all has_few_codes console_rows ≡ true
unfolding codes_of console_rows
consoles_few = refl

pub few_codes : (row : RowShape) → IsRow row → length (codes_of row) ≤ 16
few_codes row (inl (k, l, e)) = le_holds (length (codes_of row)) 16 (passes has_few_codes host_rows row k hosts_few l e)
few_codes row (inr (k, l, e)) = le_holds (length (codes_of row)) 16 (passes has_few_codes console_rows row k consoles_few l e)
