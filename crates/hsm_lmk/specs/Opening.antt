-- What opening a text answers.
use Rattle.std.specs.Prelude.{◌≡◌, ℕ, ◌<◌, [], length, slice_index_or, Bool, true, false, not, List, Result, Ok, Err}
use Rattle.hsm_types.specs.declared.types.KeyType.{KeyType}
use Rattle.hsm_types.specs.declared.types.KeyType.TheVariants.{Zmk, Zpk, Tpk, Cvk, Tak, Zak, Bdk, Zek, Dek}
use Rattle.hsm_types.specs.declared.types.Scheme.{Scheme}
use Rattle.hsm_types.specs.declared.types.Scheme.TheVariants.{Z, P, U, T, X, Y}
use Rattle.hsm_lmk.specs.Pairs.{AllOdd}
use Rattle.hsm_lmk.specs.Sealing.{Sealed, pair_key}
use Rattle.hsm_lmk.specs.declared.OpenFault.{OpenFault}
use Rattle.hsm_lmk.specs.declared.OpenFault.TheVariants.{Scheme as bad_scheme, Length as bad_length, Parity as bad_parity}

-- types 002 and 402, whose pairs are written without a tag
abbrev pub takes_pair : KeyType → Bool
takes_pair Tpk = true
takes_pair Cvk = true
takes_pair Zmk = false
takes_pair Zpk = false
takes_pair Tak = false
takes_pair Zak = false
takes_pair Bdk = false
takes_pair Zek = false
takes_pair Dek = false

-- the schemes that no text of the type under an LMK has
abbrev pub refuses_scheme : KeyType → Scheme → Bool
refuses_scheme ty Z = false
refuses_scheme ty P = not (takes_pair ty)
refuses_scheme ty U = false
refuses_scheme ty T = false
refuses_scheme ty X = true
refuses_scheme ty Y = true

-- the scheme of two parts without a tag
abbrev pub is_untagged_pair : Scheme → Bool
is_untagged_pair Z = false
is_untagged_pair P = true
is_untagged_pair U = false
is_untagged_pair T = false
is_untagged_pair X = false
is_untagged_pair Y = false

-- the answer for a text, the scheme being refused or not and the length permitted or not
abbrev pub Opens : Bool → Bool → List (List ℕ) → Scheme → List ℕ → Result (List (List ℕ)) OpenFault → Type 0
Opens refused permitted w s text (Ok key) = (refused ≡ false) × (permitted ≡ true) × Sealed w s key text × AllOdd key
Opens refused permitted w s text (Err bad_scheme) = refused ≡ true
Opens refused permitted w s text (Err bad_length) = (refused ≡ false) × (permitted ≡ false)
Opens refused permitted w s text (Err bad_parity) =
    (refused ≡ false) × (permitted ≡ true) × (key : List (List ℕ)) × Sealed w s key text × (AllOdd key → ⊥)

-- the schemes that keys are sealed in under an LMK
abbrev pub is_lmk_scheme : Scheme → Bool
is_lmk_scheme Z = true
is_lmk_scheme P = true
is_lmk_scheme U = true
is_lmk_scheme T = true
is_lmk_scheme X = false
is_lmk_scheme Y = false

-- pair k is the first with a byte of even parity
pub record IsFirstEven (pairs : List (List ℕ)) (k : ℕ) : Type 0 where
  pub within : k < length pairs
  pub even : AllOdd (pair_key (slice_index_or pairs k [])) → ⊥
  pub before : (j : ℕ) → j < k → AllOdd (pair_key (slice_index_or pairs j []))

-- every byte of every pair is odd
abbrev pub AllPairsOdd : List (List ℕ) → Type 0
AllPairsOdd pairs = (j : ℕ) → j < length pairs → AllOdd (pair_key (slice_index_or pairs j []))
