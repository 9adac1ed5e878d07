-- The words of `make`.
use Rattle.std.proofs.Common.{◌≡◌, ℕ, Bool, true, false, ◌&&◌, nat_le, List, [], ◌∷◌, length, Some, None, codes, refl, inl, inr, ap}
use Rattle.std.specs.Prelude.{◌⊎◌}
use Rattle.std.specs.List.{list_all}
use Rattle.std.specs.Char.{is_ascii_digit}
use Rattle.hsm_session.specs.Scripts.{not_zero, number_within}
use Rattle.hsm_program.specs.Words.{asked, make, usage}

and_false : (b : Bool) → (b && false) ≡ false
and_false true = refl
and_false false = refl

false_and : (a b : Bool) → a ≡ false → (a && b) ≡ false
false_and true b h = absurd (cc)
false_and false b h = refl

-- a number of two digits or more does not begin with 0
long_zero : (most digit : ℕ) (digits : List ℕ) → number_within most (48 ∷ digit ∷ digits) ≡ None
unfolding number_within
long_zero most digit digits = rw (and_false (nat_le 1 (length (48 ∷ digit ∷ digits)) && list_all is_ascii_digit (48 ∷ digit ∷ digits))) refl

no_count : (digits : List ℕ) → not_zero (number_within 50000 (48 ∷ digits)) ≡ None
unfolding number_within
no_count [] = refl
no_count (digit ∷ digits) = ap not_zero (long_zero 50000 digit digits)

signed : (most sign : ℕ) (digits : List ℕ) → (sign ≡ 43) ⊎ (sign ≡ 45) → number_within most (sign ∷ digits) ≡ None
unfolding number_within
signed most sign digits (inl plus) = rw plus (rw (and_false (nat_le 1 (length (43 ∷ digits)))) refl)
signed most sign digits (inr minus) = rw minus (rw (and_false (nat_le 1 (length (45 ∷ digits)))) refl)

pub least : asked (codes "make" ∷ codes "1" ∷ codes "0" ∷ []) ≡ make 1 0
unfolding number_within
least = refl

pub greatest : asked (codes "make" ∷ codes "50000" ∷ codes "4294967295" ∷ []) ≡ make 50000 4294967295
unfolding number_within
greatest = refl

pub without_seed : asked (codes "make" ∷ codes "1" ∷ []) ≡ usage 2
unfolding number_within
without_seed = refl

pub more : (word : List ℕ) (rest : List (List ℕ)) → asked (codes "make" ∷ codes "1" ∷ codes "0" ∷ word ∷ rest) ≡ usage 3
unfolding number_within
more word rest = refl

pub many : (rest : List (List ℕ)) → asked (codes "make" ∷ codes "50001" ∷ rest) ≡ usage 1
unfolding number_within
many rest = refl

pub large_seed : (rest : List (List ℕ)) → asked (codes "make" ∷ codes "1" ∷ codes "4294967296" ∷ rest) ≡ usage 2
unfolding number_within
large_seed rest = refl

pub zero : (digits : List ℕ) (rest : List (List ℕ)) → asked (codes "make" ∷ (48 ∷ digits) ∷ rest) ≡ usage 1
zero digits rest = rw (no_count digits) refl

one : number_within 50000 (codes "1") ≡ Some 1
unfolding number_within
one = refl

pub seed_zero : (digit : ℕ) (digits : List ℕ) (rest : List (List ℕ)) → asked (codes "make" ∷ codes "1" ∷ (48 ∷ digit ∷ digits) ∷ rest) ≡ usage 2
seed_zero digit digits rest = rw (one, long_zero 4294967295 digit digits) refl

pub count_sign : (sign : ℕ) (digits : List ℕ) (rest : List (List ℕ)) → (sign ≡ 43) ⊎ (sign ≡ 45) → asked (codes "make" ∷ (sign ∷ digits) ∷ rest) ≡ usage 1
count_sign sign digits rest is = rw (signed 50000 sign digits is) refl

pub seed_sign : (sign : ℕ) (digits : List ℕ) (rest : List (List ℕ)) → (sign ≡ 43) ⊎ (sign ≡ 45) → asked (codes "make" ∷ codes "1" ∷ (sign ∷ digits) ∷ rest) ≡ usage 2
seed_sign sign digits rest is = rw (one, signed 4294967295 sign digits is) refl
