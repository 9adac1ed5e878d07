-- Whether the LMK set that a message names is loaded.
use Rattle.std.proofs.Common.{◌≡◌, ℕ, ◌<◌, ◌≤◌, true, false, [], ◌∷◌, length, Some, None, ap, arith}
use Rattle.std.specs.Prelude.{nat_lt, if◌then◌else◌, Ok}
use Rattle.std.proofs.lemmas.Bool.Decides.{nat_tests}
use Rattle.hsm_answers.specs.Read.{ReadMessage}
use Rattle.hsm_answers.specs.Keys.{first_code, keys_fault}
use Rattle.hsm_answers.specs.Checks.{early_fault, parts_fault, permit_fault, set_fault}
use Rattle.hsm_answers.specs.Kept.{checks_entries, read_entries}

below : (a b : ℕ) → a < b → nat_lt a b ≡ true
below a b h = grind (arith, nat_tests)

not_below : (a b : ℕ) → b ≤ a → nat_lt a b ≡ false
not_below a b h = grind (arith, nat_tests)

-- where it is, no check of it fails
pub loaded_so : (q : ReadMessage) → q.read.set < length q.«module».lmks.items → set_fault q ≡ None
loaded_so q h = ap (λ b. if b then None else Some 13) (below q.read.set (length q.«module».lmks.items) h)

-- and the keys are those of the checks
pub loaded_entries : (q : ReadMessage) → q.read.set < length q.«module».lmks.items → read_entries (Ok q) ≡ checks_entries q q.rules.keys
loaded_entries q h = ap (λ b. if b then checks_entries q q.rules.keys else []) (below q.read.set (length q.«module».lmks.items) h)

-- where it isn't, 13 is the first code
pub unloaded_before : (q : ReadMessage) → length q.«module».lmks.items ≤ q.read.set → early_fault q ≡ Some 13
unfolding early_fault
unloaded_before q h =
    ap (λ b. first_code ((if b then None else Some 13) ∷ keys_fault q q.rules.keys ∷ permit_fault q ∷ parts_fault q q.rules.parts_differ ∷ []))
    (not_below q.read.set (length q.«module».lmks.items) h)

-- and no key is opened
pub unloaded_entries : (q : ReadMessage) → length q.«module».lmks.items ≤ q.read.set → read_entries (Ok q) ≡ []
unloaded_entries q h = ap (λ b. if b then checks_entries q q.rules.keys else []) (not_below q.read.set (length q.«module».lmks.items) h)
