-- Sealing of keys under LMK pairs and wrapping keys.
use Rattle.std.specs.Prelude.{◌≡◌, ℕ, ◌+◌, ◌*◌, ◌<◌, List, [], ◌∷◌, length, take, drop, fold, bit_xor, slice_index, slice_index_or, slice_range}
use Rattle.std.specs.Int.{w64, from_be_bytes}
use Rattle.hsm_tdes.specs.Tdes.{IsKey, enciphered}
use Rattle.hsm_types.specs.Table.{pair_of, variant_of}
use Rattle.hsm_lmk.specs.Pairs.{lmk_pair}
use Rattle.hsm_types.specs.Schemes.{scheme_parts}
use Rattle.hsm_types.specs.declared.types.KeyType.{KeyType}
use Rattle.hsm_types.specs.declared.types.Scheme.{Scheme}
use Rattle.hsm_types.specs.declared.types.Scheme.TheVariants.{Z, P, U, T, X, Y}

-- what the type variants 0 to 9 exclusive-or on a byte
abbrev pub type_variants : List ℕ
type_variants = 0 ∷ 0xA6 ∷ 0x5A ∷ 0x6A ∷ 0xDE ∷ 0x2B ∷ 0x50 ∷ 0x74 ∷ 0x9C ∷ 0xFA ∷ []

-- what the scheme variants of parts 0, 1, 2 exclusive-or on a byte; the other schemes change nothing
abbrev pub scheme_variants : Scheme → List ℕ
scheme_variants Z = []
scheme_variants P = []
scheme_variants U = 0xA6 ∷ 0x5A ∷ []
scheme_variants T = 0x6A ∷ 0xDE ∷ 0x2B ∷ []
scheme_variants X = []
scheme_variants Y = []

-- a part with a variant on its first byte
abbrev pub varied : ℕ → List ℕ → List ℕ
varied v [] = []
varied v (byte ∷ bytes) = bit_xor byte v ∷ bytes

-- the wrapping key for part i of a scheme: the key with the scheme variant of part i on the first byte of its second part
abbrev pub under : List (List ℕ) → Scheme → ℕ → List (List ℕ)
under [] s i = []
under (a ∷ []) s i = a ∷ []
under (a ∷ b ∷ more) s i = a ∷ varied (slice_index (scheme_variants s) i) b ∷ more

-- a pair of 16 bytes as a key of two parts
abbrev pub pair_key : List ℕ → List (List ℕ)
pair_key pair = take 8 pair ∷ take 8 (drop 8 pair) ∷ []

-- the key with a variant on its first byte
abbrev pub varied_first : ℕ → List (List ℕ) → List (List ℕ)
varied_first v [] = []
varied_first v (a ∷ more) = varied v a ∷ more

-- the LMK pair of a type with the type's variant
unfoldable pub wrap : List (List (List ℕ)) → KeyType → List (List ℕ)
wrap set ty = varied_first (slice_index type_variants (variant_of ty)) (lmk_pair set (pair_of ty))

-- block i of a text
unfoldable pub block_at : List ℕ → ℕ → ℕ
block_at text i = from_be_bytes w64 (slice_range text (8 * i) (8 * i + 8))

-- a part as a block
unfoldable pub block_of : List ℕ → ℕ
block_of part = from_be_bytes w64 part

-- the text is the key sealed under w in the scheme: each block of the text is the part enciphered under the wrapping key for the part
pub record Sealed (w : List (List ℕ)) (s : Scheme) (key : List (List ℕ)) (text : List ℕ) : Type 0 where
  pub is_key : IsKey key
  pub parts : length key ≡ scheme_parts s
  pub size : length text ≡ 8 * scheme_parts s
  pub each : (i : ℕ) → i < scheme_parts s → block_at text i ≡ enciphered (under w s i) (block_of (slice_index_or key i []))

-- the exclusive-or of the zero block enciphered under each pair
abbrev pub lmk_check : List (List (List ℕ)) → ℕ
lmk_check set = fold (λ sum key. bit_xor sum (enciphered key 0)) 0 set
