-- Keys of one to three parts (FIPS 46-3, TDEA). A part is a list of 8 bytes.
use Rattle.std.specs.Prelude.{◌≡◌, ℕ, ◌^◌, ◌<◌, ◌≤◌, ◌≢◌, Bool, false, ◌||◌, List, [], ◌∷◌, length, take, map, All, flat_map}
use Rattle.std.specs.List.{AllByRecursion}
use Rattle.std.specs.Str.{bytes_eq}
use Rattle.hsm_nibbles.specs.Nibbles.{nibbles_of}
use Rattle.hsm_nibbles.specs.Characters.{hex_character}
use Rattle.hsm_des.specs.Des.{des_encrypt, des_decrypt}

-- the block enciphered under the key: E (K1, x), or E (K1, D (K2, E (K1, x))), or E (K3, D (K2, E (K1, x)))
abbrev pub enciphered : List (List ℕ) → ℕ → ℕ
enciphered [] x = x
enciphered (k ∷ []) x = des_encrypt k x
enciphered (a ∷ b ∷ []) x = des_encrypt a (des_decrypt b (des_encrypt a x))
enciphered (a ∷ b ∷ c ∷ more) x = des_encrypt c (des_decrypt b (des_encrypt a x))

-- the block deciphered under the key: each step undone, the last one first
abbrev pub deciphered : List (List ℕ) → ℕ → ℕ
deciphered [] x = x
deciphered (k ∷ []) x = des_decrypt k x
deciphered (a ∷ b ∷ []) x = des_decrypt a (des_encrypt b (des_decrypt a x))
deciphered (a ∷ b ∷ c ∷ more) x = des_decrypt a (des_encrypt b (des_decrypt c x))

-- a list of 8 bytes
pub record IsPart (part : List ℕ) : Type 0 where
  pub length : length part ≡ 8
  pub bytes : All (λ byte. byte < 2 ^ 8) part

-- one to three parts
pub record IsKey (key : List (List ℕ)) : Type 0 where
  pub some : 1 ≤ length key
  pub most : length key ≤ 3
  pub parts : AllByRecursion IsPart key

-- the check value: the first six digits of the enciphered zero block
unfoldable pub check_value : List (List ℕ) → List ℕ
check_value key = take 6 (map hex_character (nibbles_of (enciphered key 0)))

-- whether some part equals the part before it
abbrev pub repeats_part : List (List ℕ) → Bool
repeats_part [] = false
repeats_part (a ∷ []) = false
repeats_part (a ∷ b ∷ more) = bytes_eq a b || repeats_part (b ∷ more)

-- the parts one after another
abbrev pub key_bytes : List (List ℕ) → List ℕ
key_bytes key = flat_map (λ part. part) key

-- no key has so many bytes
abbrev pub IsNoKeyLength : ℕ → Type 0
IsNoKeyLength n = (n ≢ 8) × (n ≢ 16) × (n ≢ 24)
