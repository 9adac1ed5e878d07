-- The length of a key whose text has two parts.
use Rattle.std.proofs.Common.{◌≡◌, ℕ, Bool, true, false, List, [], ◌∷◌, length, ap, arith}
use Rattle.std.specs.Prelude.{Some, None, if◌then◌else◌, slice_get}
use Rattle.hsm_types.specs.Schemes.{scheme_parts}
use Rattle.hsm_nibbles.specs.Characters.{bytes_of_hex}
use Rattle.hsm_text.specs.KeyTexts.{scheme_of, digits_of}
use Rattle.hsm_rows.specs.declared.rules.Under.TheVariants.{Lmk}
use Rattle.hsm_answers.specs.declared.keys.Asked.{Asked}
use Rattle.hsm_answers.specs.Keys.{KeyData, key_of, is_whole, key_data_fault, opened_key}
use Rattle.hsm_answers.specs.Values.{second_part}
use Rattle.hsm_answers.proofs.Lengths.{opened_length}

-- the key text, if its digits are whole
whole_key : (w : List (List ℕ)) (a : Asked) (k : KeyData) (b : Bool) → key_data_fault (Some w) Lmk a (if b then Some k else None) ≡ None → length (opened_key w (if b then Some k else None)) ≡ scheme_parts k.scheme
unfolding key_data_fault
whole_key w a k true h = opened_length w k.scheme k.bytes
whole_key w a k false h = let z : ⊥ = cc in absurd z

-- a key without a fault has the parts of its text's scheme
pub key_parts : (w : List (List ℕ)) (a : Asked) (text : List ℕ) → key_data_fault (Some w) Lmk a (key_of text) ≡ None → length (opened_key w (key_of text)) ≡ scheme_parts (scheme_of text)
unfolding key_of
key_parts w a text h =
    whole_key w a (record { scheme = scheme_of text; bytes = bytes_of_hex (digits_of text) }) (is_whole (scheme_of text) (digits_of text)) h

-- the second of two parts
pub second_is : (key : List (List ℕ)) (part : List ℕ) → length key ≡ 2 → slice_get key 1 ≡ Some part → part ∷ [] ≡ second_part key
second_is [] part e h = let z : ⊥ = omega (arith, e) in absurd z
second_is (a ∷ []) part e h = let z : ⊥ = omega (arith, e) in absurd z
second_is (a ∷ b ∷ []) part e h = let same : part ≡ b = cc in ap (λ (x : List ℕ). x ∷ []) same
second_is (a ∷ b ∷ d ∷ more) part e h = let z : ⊥ = omega (arith, e) in absurd z
