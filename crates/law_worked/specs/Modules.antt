-- Modules of the LMK sets of the worked messages, with two host ports and a seed of zeros.
use Rattle.std.specs.Prelude.{ℕ, zero, suc, ◌+◌, ◌*◌, List, [], ◌∷◌, ◌++◌, map, replicate, codes}
use Rattle.hsm_types.specs.declared.types.Permits.{Permits}
use Rattle.hsm_types.specs.declared.types.Permit.TheVariants.{Y, A, N}
use Rattle.hsm_types.specs.declared.types.KeyType.{KeyType}
use Rattle.hsm_types.specs.declared.types.Scheme.{Scheme}
use Rattle.hsm_types.specs.Table.{permits_of}
use Rattle.hsm_parity.specs.Parity.{adjusted}
use Rattle.hsm_tdes.specs.Tdes.{enciphered}
use Rattle.hsm_nibbles.specs.Nibbles.{block_of}
use Rattle.hsm_nibbles.specs.Characters.{bytes_of_hex, digit_value}
use Rattle.hsm_lmk.specs.Pairs.{set_at}
use Rattle.hsm_lmk.specs.Sealing.{wrap}
use Rattle.hsm_pinblock.specs.Blocks.{sealed_pin}
use Rattle.hsm_rows.specs.declared.settings.Module.{Module}
use Rattle.hsm_answers.specs.Keys.{key_text}
use Rattle.hsm_answers.specs.Draws.{drawn_key}
use Rattle.hsm_answers.specs.Pins.{block_text}
use Rattle.hsm_answers.specs.Values.{parts_of_bytes}

-- the permits of the type table
abbrev pub table_permits : Permits
table_permits = record {
  zmk = permits_of A A N;
  zpk = permits_of Y Y Y;
  tpk = permits_of Y Y A;
  cvk = permits_of Y A A;
  tak = permits_of Y Y Y;
  zak = permits_of Y Y Y;
  bdk = permits_of Y A N;
  zek = permits_of Y A A;
  dek = permits_of Y A N;
}

-- the module of an LMK set
abbrev pub module_of : List (List (List ℕ)) → Module
module_of set = record { lmks = record { items = set ∷ [] }; permits = table_permits; disabled = record { items = [] }; header = 4; hosts = 2; officers = []; seed = replicate 32 0 }

-- a half of the equal set
abbrev pub half : List ℕ
half = bytes_of_hex (codes "133457799BBCDFF1")

-- the equal set: every half is 133457799BBCDFF1
unfoldable pub equal_module : Module
equal_module = module_of (replicate 20 (half ∷ half ∷ []))

-- pair k of the counted set and those after it, n in all
abbrev pub counted_pairs : ℕ → ℕ → List (List (List ℕ))
counted_pairs k zero = []
counted_pairs k (suc n) = (adjusted (replicate 8 (32 + 2 * k)) ∷ adjusted (replicate 8 (96 + 2 * k)) ∷ []) ∷ counted_pairs (k + 1) n

-- the counted set: pair k has the odd-parity forms of 32 + 2k and of 96 + 2k
unfoldable pub counted_module : Module
counted_module = module_of (counted_pairs 0 20)

-- its pairs
abbrev pub counted_set : List (List (List ℕ))
counted_set = set_at counted_module.lmks.items 0

-- a key of one part
abbrev pub one_part : List ℕ → List (List ℕ)
one_part digits = parts_of_bytes 1 (bytes_of_hex digits)

-- a key of two parts
abbrev pub two_parts : List ℕ → List (List ℕ)
two_parts digits = parts_of_bytes 2 (bytes_of_hex digits)

-- the key 0123456789ABCDEF
abbrev pub short_key : List (List ℕ)
short_key = one_part (codes "0123456789ABCDEF")

-- another set: as the equal one, but both halves of pair 14-15 are 0123456789ABCDEF
unfoldable pub other_pvk_module : Module
other_pvk_module = module_of (replicate 7 (half ∷ half ∷ []) ++ ((short_key ++ short_key) ∷ replicate 12 (half ∷ half ∷ [])))

-- the key whose check value is 08D7B4
abbrev pub long_key : List (List ℕ)
long_key = two_parts (codes "0123456789ABCDEFFEDCBA9876543210")

-- the key of words 0 to 3
abbrev pub first_drawn : List (List ℕ)
first_drawn = drawn_key counted_module 0 2

-- the key of words 4 to 7
abbrev pub second_drawn : List (List ℕ)
second_drawn = drawn_key counted_module 4 2

-- the text of a key under the counted set
abbrev pub sealed_key : KeyType → Scheme → List (List ℕ) → List ℕ
sealed_key ty s key = key_text (wrap counted_set ty) s key

-- the account
abbrev pub account : List ℕ
account = codes "123456789012"

-- the digits of a PIN under the counted set
abbrev pub sealed_digits : List ℕ → List ℕ
sealed_digits pin = block_text (sealed_pin counted_set (map digit_value pin) (map digit_value account))

-- the digits of a block enciphered under a key
abbrev pub enciphered_digits : List (List ℕ) → List ℕ → List ℕ
enciphered_digits key block = block_text (enciphered key (block_of (map digit_value block)))
