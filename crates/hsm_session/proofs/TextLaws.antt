-- Hexadecimal texts made byte by byte.
use Rattle.std.proofs.Common.{◌≡◌, ℕ, ◌/◌, ◌%◌, List, [], ◌∷◌, ◌++◌, refl, ap}
use Rattle.hsm_nibbles.specs.Characters.{hex_character, hex_of_bytes}

pub hex_of_bytes_push : (bytes : List ℕ) (byte : ℕ)
    → hex_of_bytes (bytes ++ byte ∷ []) ≡ hex_of_bytes bytes ++ hex_character (byte / 16) ∷ hex_character (byte % 16) ∷ []
hex_of_bytes_push [] byte = refl
hex_of_bytes_push (first ∷ bytes) byte =
    ap (λ (text : List ℕ). hex_character (first / 16) ∷ hex_character (first % 16) ∷ text) (hex_of_bytes_push bytes byte)
