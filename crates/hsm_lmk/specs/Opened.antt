-- The text of a key and the key of a text, as functions: what the relation `Sealed` relates.
use Rattle.std.specs.Prelude.{ℕ, zero, suc, ◌+◌, Bool, not, if◌then◌else◌, Result, Ok, Err, List, [], ◌∷◌, ◌++◌, take, drop}
use Rattle.std.specs.List.{list_all}
use Rattle.std.specs.Int.{w64, to_be_bytes}
use Rattle.hsm_parity.specs.Parity.{has_odd_parity}
use Rattle.hsm_tdes.specs.Tdes.{enciphered, deciphered}
use Rattle.hsm_types.specs.Schemes.{scheme_parts}
use Rattle.hsm_types.specs.declared.types.Scheme.{Scheme}
use Rattle.hsm_lmk.specs.Sealing.{under, block_of}
use Rattle.hsm_lmk.specs.declared.OpenFault.{OpenFault}
use Rattle.hsm_lmk.specs.declared.OpenFault.TheVariants as fault

-- the text of these parts, the first of which is part i
abbrev pub sealed_from : List (List ℕ) → Scheme → ℕ → List (List ℕ) → List ℕ
sealed_from w s i [] = []
sealed_from w s i (part ∷ parts) = to_be_bytes w64 (enciphered (under w s i) (block_of part)) ++ sealed_from w s (i + 1) parts

-- the text of the key sealed under w in the scheme
unfoldable pub sealed : List (List ℕ) → Scheme → List (List ℕ) → List ℕ
sealed w s key = sealed_from w s 0 key

-- the n parts of a text, the first of which is part i
abbrev pub opened_from : List (List ℕ) → Scheme → ℕ → ℕ → List ℕ → List (List ℕ)
opened_from w s i zero text = []
opened_from w s i (suc n) text = to_be_bytes w64 (deciphered (under w s i) (block_of (take 8 text))) ∷ opened_from w s (i + 1) n (drop 8 text)

-- the key that the text is under w in the scheme
unfoldable pub opened : List (List ℕ) → Scheme → List ℕ → List (List ℕ)
opened w s text = opened_from w s 0 (scheme_parts s) text

-- every byte of every part is odd
unfoldable pub all_odd : List (List ℕ) → Bool
all_odd key = list_all (λ part. list_all has_odd_parity part) key

-- the answer for a text under w, the scheme being refused or not and the length permitted or not
unfoldable pub open_answer : Bool → Bool → List (List ℕ) → Scheme → List ℕ → Result (List (List ℕ)) OpenFault
open_answer refused permitted w s text =
    if refused then Err fault.Scheme
    else if not permitted then Err fault.Length
    else if all_odd (opened w s text) then Ok (opened w s text)
    else Err fault.Parity
