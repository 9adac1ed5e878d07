-- The one step of an encipherment under a key of one part, and the three under one of two or three (FIPS 46-3, TDEA).
use Rattle.std.specs.Prelude.{◌≡◌, ℕ, Bool, List}
use Rattle.hsm_des.specs.Des.{encrypted, decrypted}
use Rattle.hsm_tdes.specs.Tdes.{enciphered, deciphered}

-- the key enciphers by these round keys: encipherment, decipherment, encipherment
pub record AreSteps (key : List (List ℕ)) (first second third : List (List Bool)) : Type 0 where
  pub enciphered : (x : ℕ) → enciphered key x ≡ encrypted third (decrypted second (encrypted first x))
  pub deciphered : (x : ℕ) → deciphered key x ≡ decrypted first (encrypted second (decrypted third x))

-- the key enciphers by these round keys alone
pub record IsSingle (key : List (List ℕ)) (keys : List (List Bool)) : Type 0 where
  pub enciphered : (x : ℕ) → enciphered key x ≡ encrypted keys x
  pub deciphered : (x : ℕ) → deciphered key x ≡ decrypted keys x
