-- What each size is, case by case.
use Rattle.std.proofs.Common.{◌≡◌, ℕ, Bool, true, false, ◌<◌, ◌≤◌, List, length, take, Some, None, arith}
use Rattle.std.specs.Prelude.{nat_eq, nat_le}
use Rattle.std.specs.List.{list_all, starts_with}
use Rattle.std.proofs.lemmas.Bool.Decides.{nat_tests}
use Rattle.hsm_text.specs.Sizes.{run_size, take_size, word_size}

le_yes : (a b : ℕ) → a ≤ b → nat_le a b ≡ true
le_yes a b h = grind (arith, nat_tests)

le_no : (a b : ℕ) → b < a → nat_le a b ≡ false
le_no a b h = grind (arith, nat_tests)

pub run_yes : (test : ℕ → Bool) (n : ℕ) (rest : List ℕ) → n ≤ length rest → list_all test (take n rest) ≡ true → run_size test n rest ≡ Some n
unfolding run_size
run_yes test n rest h a = rw (le_yes n (length rest) h, a)

pub run_short : (test : ℕ → Bool) (n : ℕ) (rest : List ℕ) → length rest < n → run_size test n rest ≡ None
unfolding run_size
run_short test n rest h = rw (le_no n (length rest) h)

pub run_not : (test : ℕ → Bool) (n : ℕ) (rest : List ℕ) → n ≤ length rest → list_all test (take n rest) ≡ false → run_size test n rest ≡ None
unfolding run_size
run_not test n rest h a = rw (le_yes n (length rest) h, a)

pub take_yes : (n : ℕ) (rest : List ℕ) → n ≤ length rest → take_size n rest ≡ Some n
unfolding take_size
take_yes n rest h = rw (le_yes n (length rest) h)

pub take_short : (n : ℕ) (rest : List ℕ) → length rest < n → take_size n rest ≡ None
unfolding take_size
take_short n rest h = rw (le_no n (length rest) h)

pub word_yes : (word rest : List ℕ) → starts_with nat_eq rest word ≡ true → word_size word rest ≡ Some (length word)
unfolding word_size
word_yes word rest h = rw h

pub word_not : (word rest : List ℕ) → starts_with nat_eq rest word ≡ false → word_size word rest ≡ None
unfolding word_size
word_not word rest h = rw h

pub ruleset size_steps = (run_yes, run_short, run_not, take_yes, take_short, word_yes, word_not)
