-- Lengths of the texts of a made script.
use Rattle.std.proofs.Common.{◌≡◌, ℕ, ◌*◌, List, [], ◌∷◌, length, refl, arith}
use Rattle.hsm_nibbles.specs.Characters.{hex_of_bytes}

-- two characters a byte
pub length-hex_of_bytes : (bytes : List ℕ) → length (hex_of_bytes bytes) ≡ 2 * length bytes
length-hex_of_bytes [] = refl
length-hex_of_bytes (byte ∷ bytes) = let h : length (hex_of_bytes bytes) ≡ 2 * length bytes = length-hex_of_bytes bytes in omega arith
