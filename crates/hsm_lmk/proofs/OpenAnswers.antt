-- What opening a text answers, as a function.
use Rattle.std.proofs.Common.{subst, ◌≡◌, ℕ, zero, suc, ◌∙◌, Bool, true, false, ◌&&◌, List, [], ◌∷◌, refl, sym, ap, arith}
use lib.Count.{ones}
use Rattle.std.proofs.lemmas.Bool.Decides.{nat_tests}
use Rattle.std.specs.Prelude.{◌↔◌, ◌*◌, ◌^◌, ◌<◌, ◌==◌, replicate, if◌then◌else◌, length, All, Result, Ok, Err}
use Rattle.std.specs.Bool.{Decides}
use Rattle.std.specs.List.{list_all}
use Rattle.hsm_parity.specs.Parity.{IsOdd, has_odd_parity}
use Rattle.hsm_types.specs.declared.types.Scheme.{Scheme}
use Rattle.hsm_lmk.specs.Opening.{Opens}
use Rattle.hsm_lmk.specs.Pairs.{AllOdd, IsLmkSet}
use Rattle.hsm_lmk.specs.Opened.{opened, all_odd, open_answer}
use Rattle.hsm_lmk.specs.declared.OpenFault.{OpenFault}
use Rattle.hsm_lmk.specs.declared.OpenFault.TheVariants as fault
use Rattle.hsm_types.specs.Schemes.{scheme_parts}
use Rattle.hsm_lmk.proofs.OpenedLaws.{opens_to_sealed}
use Rattle.hsm_lmk.proofs.SealedLaws.{some_key}

and-left : (a b : Bool) → (a && b) ≡ true → a ≡ true
and-left true b e = refl
and-left false b e = e

and-right : (a b : Bool) → (a && b) ≡ true → b ≡ true
and-right true b e = e
and-right false b e = cc

and-both : (a b : Bool) → a ≡ true → b ≡ true → (a && b) ≡ true
and-both true b e f = f
and-both false b e f = e

to_All : {X : Type 0} (P : X → Type 0) (p : X → Bool) → ((x : X) → Decides (p x) (P x)) → (xs : List X) → list_all p xs ≡ true → All P xs
to_All P p dec [] e i d h = absurd (omega arith)
to_All P p dec (x ∷ xs) e zero d h = (dec x).0 (and-left (p x) (list_all p xs) e)
to_All P p dec (x ∷ xs) e (suc i) d h = to_All P p dec xs (and-right (p x) (list_all p xs) e) i d (omega arith)

from_All : {X : Type 0} (P : X → Type 0) (p : X → Bool) → ((x : X) → Decides (p x) (P x)) → (xs : List X) → All P xs → list_all p xs ≡ true
from_All P p dec [] all = refl
from_All P p dec (x ∷ xs) all =
    and-both (p x) (list_all p xs) ((dec x).1 (all zero x (omega arith))) (from_All P p dec xs (λ i d h. all (suc i) d (omega arith)))

odd_byte : (byte : ℕ) → Decides (has_odd_parity byte) (IsOdd byte)
odd_byte byte = (λ h. h, λ h. h)

odd_part : (part : List ℕ) → Decides (list_all has_odd_parity part) (All IsOdd part)
odd_part part = (to_All IsOdd has_odd_parity odd_byte part, from_All IsOdd has_odd_parity odd_byte part)

pub all_odd-Decides : (key : List (List ℕ)) → Decides (all_odd key) (AllOdd key)
unfolding all_odd
all_odd-Decides key = (to_All (λ part. All IsOdd part) (λ part. list_all has_odd_parity part) odd_part key, from_All (λ part. All IsOdd part) (λ part. list_all has_odd_parity part) odd_part key)

two_long : (pair : List (List ℕ)) → Decides (length pair == 2) (length pair ≡ 2)
two_long pair = (λ h. grind (arith, nat_tests), λ h. grind (arith, nat_tests))

blank_key : List (List ℕ)
blank_key = replicate 8 1 ∷ replicate 8 1 ∷ []

blank_odd : list_all all_odd (replicate 20 blank_key) ≡ true
unfolding all_odd blank_key ones
blank_odd = refl

-- twenty pairs of bytes 01 are a set
pub blank_is_set : (key : List (List ℕ)) (pairs : List (List (List ℕ))) → key ≡ replicate 8 1 ∷ replicate 8 1 ∷ [] → pairs ≡ replicate 20 key → IsLmkSet pairs
unfolding blank_key
blank_is_set key pairs k p =
    let P : List (List (List ℕ)) → Type 0 = λ x. IsLmkSet x in
    let same : replicate 20 blank_key ≡ pairs = ap (replicate 20) (sym k) ∙ sym p in
    subst P same (record {
      twenty = refl;
      parts = to_All (λ pair. length pair ≡ 2) (λ pair. length pair == 2) two_long (replicate 20 blank_key) refl;
      odd = to_All AllOdd all_odd all_odd-Decides (replicate 20 blank_key) blank_odd;
    })

not_true : (b : Bool) → (b ≡ true → ⊥) → b ≡ false
not_true true h = absurd (h refl)
not_true false h = refl

pub opens-is : (refused permitted : Bool) (w : List (List ℕ)) (s : Scheme) (text : List ℕ) (r : Result (List (List ℕ)) OpenFault) → Opens refused permitted w s text r → r ≡ open_answer refused permitted w s text
unfolding open_answer
opens-is refused permitted w s text (Ok key) h =
    let same : opened w s text ≡ key = opens_to_sealed w s key text h.2 in
    let odd : all_odd (opened w s text) ≡ true = ap all_odd same ∙ (all_odd-Decides key).1 h.3 in
    rw (h.0, h.1, odd) (ap Ok (sym same))
opens-is refused permitted w s text (Err fault.Scheme) h = rw h refl
opens-is refused permitted w s text (Err fault.Length) h = rw (h.0, h.1) refl
opens-is refused permitted w s text (Err fault.Parity) h =
    let key = h.2 in
    let same : opened w s text ≡ key = opens_to_sealed w s key text h.3 in
    let even : all_odd (opened w s text) ≡ false = not_true (all_odd (opened w s text)) (λ e. h.4 ((all_odd-Decides key).0 (ap all_odd (sym same) ∙ e))) in
    rw (h.0, h.1, even) refl

-- the same the other way round, for a text of bytes that has the scheme's length
opens-from : (refused permitted : Bool) (w : List (List ℕ)) (s : Scheme) (text : List ℕ) → All (λ byte. byte < 2 ^ 8) text → length text ≡ 8 * scheme_parts s
    → Opens refused permitted w s text (open_answer refused permitted w s text)
unfolding open_answer
opens-from true permitted w s text bytes size = refl
opens-from false false w s text bytes size = (refl, refl)
opens-from false true w s text bytes size = by (all_odd (opened w s text)) refl where
  by : (odd : Bool) → all_odd (opened w s text) ≡ odd → Opens false true w s text (if odd then Ok (opened w s text) else Err fault.Parity)
  by true e = (refl, refl, some_key w s text bytes size, (all_odd-Decides (opened w s text)).0 e)
  by false e = (refl, refl, opened w s text, some_key w s text bytes size, λ odd. let z : all_odd (opened w s text) ≡ true = (all_odd-Decides (opened w s text)).1 odd in absurd (cc))

-- the answer is the one that the relation tells
pub opens-exactly : (refused permitted : Bool) (w : List (List ℕ)) (s : Scheme) (text : List ℕ) (r : Result (List (List ℕ)) OpenFault) → All (λ byte. byte < 2 ^ 8) text
    → length text ≡ 8 * scheme_parts s → (r ≡ open_answer refused permitted w s text) ↔ Opens refused permitted w s text r
opens-exactly refused permitted w s text r bytes size = (
  λ e. subst (λ (x : Result (List (List ℕ)) OpenFault). Opens refused permitted w s text x) (sym e) (opens-from refused permitted w s text bytes size),
  opens-is refused permitted w s text r,
)
