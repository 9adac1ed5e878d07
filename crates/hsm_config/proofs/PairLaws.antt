-- LMK pairs of odd bytes.
use Rattle.std.proofs.Common.{◌≡◌, ℕ, ◌<◌, List, [], length, drop, take, Bool, true, get_or, refl, inl, inr, Result, Err}
use Rattle.std.specs.Prelude.{◌↔◌}
use Rattle.std.specs.List.{AllPass, list_all}
use Rattle.std.proofs.lemmas.Bool.{cases_Bool}
use Rattle.std.proofs.lemmas.List.Elements.{All-drop, All-take}
use Rattle.std.proofs.lemmas.List.Folds.{list_all_at}
use Rattle.std.proofs.lemmas.List.Sums.{AllPass-from_list_all, list_all-from_AllPass}
use Rattle.hsm_lmk.specs.Sealing.{pair_key}
use Rattle.hsm_lmk.specs.Opening.{IsFirstEven}
use Rattle.hsm_parity.specs.Parity.{has_odd_parity}
use Rattle.hsm_lmk.specs.Opened.{all_odd}
use Rattle.hsm_lmk.specs.declared.LmkFault.{LmkFault}
use Rattle.hsm_lmk.specs.declared.LmkFault.TheVariants.{Parity}
use Rattle.hsm_lmk.proofs.OpenAnswers.{all_odd-Decides}
use Rattle.hsm_config.specs.Rules.{are_odd}

part_odd : (n : ℕ) (bytes : List ℕ) → AllPass has_odd_parity bytes → list_all has_odd_parity (take n bytes) ≡ true
part_odd n bytes odd = list_all-from_AllPass has_odd_parity (take n bytes) (All-take (λ byte. has_odd_parity byte ≡ true) n bytes odd)

-- the two parts of a pair of odd bytes
key_odd : (pair : List ℕ) → list_all has_odd_parity pair ≡ true → all_odd (pair_key pair) ≡ true
unfolding all_odd
key_odd pair odd =
    let bytes = AllPass-from_list_all has_odd_parity pair odd in
    rw (part_odd 8 pair bytes, part_odd 8 (drop 8 pair) (All-drop (λ byte. has_odd_parity byte ≡ true) 8 pair bytes)) refl

-- a test that each of some lists passes holds at each place
pub all_at : (p : List ℕ → Bool) (xs : List (List ℕ)) (k : ℕ) → list_all p xs ≡ true → k < length xs → p (get_or xs k []) ≡ true
all_at p xs k all within = elim (cases_Bool (p (get_or xs k []))) [ inl holds ↦ holds | inr fails ↦ absurd (cc (list_all_at p xs k [] within fails)) ]

no_even_pair : (pairs : List (List ℕ)) (k : ℕ) → are_odd pairs ≡ true → IsFirstEven pairs k → ⊥
no_even_pair pairs k odd first =
    first.even ((all_odd-Decides (pair_key (get_or pairs k []))).0 (key_odd (get_or pairs k []) (all_at (λ (pair : List ℕ). list_all has_odd_parity pair) pairs k odd first.within)))

-- the pair that a fault names
even_pair : {A : Type 0} (pairs : List (List ℕ)) (result : Result A LmkFault) (fault : LmkFault) → result ≡ Err fault
    → ((k : ℕ) → (result ≡ Err (Parity k)) ↔ IsFirstEven pairs k) → (k : ℕ) × IsFirstEven pairs k
even_pair pairs result (Parity k) is exact = (k, (exact k).0 is)

-- pairs of odd bytes are no fault
pub no_fault : {A : Type 0} (pairs : List (List ℕ)) (result : Result A LmkFault) (fault : LmkFault) → are_odd pairs ≡ true
    → result ≡ Err fault → ((k : ℕ) → (result ≡ Err (Parity k)) ↔ IsFirstEven pairs k) → ⊥
no_fault pairs result fault odd is exact = let first = even_pair pairs result fault is exact in no_even_pair pairs first.0 odd first.1
