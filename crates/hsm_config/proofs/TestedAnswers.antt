-- What an answer that stands behind a test says of the test.
use Rattle.std.proofs.Common.{◌≡◌, ℕ, Bool, true, false, Option, Some, None, if◌then◌else◌, refl}
use Rattle.hsm_config.specs.Document.{is_within}

-- a value that is not there shows that the test failed
pub none_if : {A : Type 0} (test : Bool) (x : A) (r : Option A) → r ≡ (if test then Some x else None) → r ≡ None → test ≡ false
none_if true x r is none = cc (is, none)
none_if false x r is none = refl

-- a value that is there shows that the test passed, and is the one
pub some_if : {A : Type 0} (test : Bool) (x y : A) (r : Option A) → r ≡ (if test then Some x else None) → r ≡ Some y → (test ≡ true) × (y ≡ x)
some_if true x y r is some = (refl, cc (is, some))
some_if false x y r is some = cc (is, some)

kept : (test : Bool) (o r : Option ℕ) (n : ℕ) → r ≡ (if test then o else None) → r ≡ Some n → (test ≡ true) × (o ≡ Some n)
kept true o r n is some = (refl, cc (is, some))
kept false o r n is some = cc (is, some)

-- a number that is there is of the range
pub number_there : (least most : ℕ) (o r : Option ℕ) (n : ℕ) → r ≡ (if is_within least most o then o else None) → r ≡ Some n
    → (is_within least most o ≡ true) × (o ≡ Some n)
number_there least most o r n is some = kept (is_within least most o) o r n is some

-- a number that is not there is not of the range
pub no_number : (least most : ℕ) (o r : Option ℕ) → r ≡ (if is_within least most o then o else None) → r ≡ None → is_within least most o ≡ false
no_number least most None r is none = refl
no_number least most (Some n) r is none = none_if (is_within least most (Some n)) n r is none
