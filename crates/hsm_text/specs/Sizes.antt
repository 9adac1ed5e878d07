-- The one size of a text of a form at the front of what is left, or none where no such text stands there.
use Rattle.std.specs.Prelude.{ℕ, Bool, ◌&&◌, ◌+◌, nat_eq, nat_le, if◌then◌else◌, List, [], ◌∷◌, length, take, drop, Option, Some, None, codes}
use Rattle.std.specs.List.{list_all, starts_with}
use Rattle.std.specs.Option.{option_map, option_or}
use Rattle.std.specs.Char.{is_ascii_digit, is_ascii_hexdigit}
use Rattle.hsm_text.specs.declared.keys.KeyForm.{KeyForm}
use Rattle.hsm_text.specs.declared.keys.KeyForm.TheVariants.{K, P, W, F0, F1, F2}

-- the size n where the test holds
abbrev pub only_if : Bool → ℕ → Option ℕ
only_if holds n = if holds then Some n else None

-- any n bytes
unfoldable pub take_size : ℕ → List ℕ → Option ℕ
take_size n rest = only_if (nat_le n (length rest)) n

-- n bytes that each pass the test
unfoldable pub run_size : (ℕ → Bool) → ℕ → List ℕ → Option ℕ
run_size test n rest = only_if (nat_le n (length rest) && list_all test (take n rest)) n

-- n decimal digits
abbrev pub digits_size : ℕ → List ℕ → Option ℕ
digits_size = run_size is_ascii_digit

-- n hexadecimal digits of either case
abbrev pub hex_size : ℕ → List ℕ → Option ℕ
hex_size = run_size is_ascii_hexdigit

-- just this text
unfoldable pub word_size : List ℕ → List ℕ → Option ℕ
word_size word rest = only_if (starts_with nat_eq rest word) (length word)

-- one of these texts, the first that stands
unfoldable pub one_of_size : List (List ℕ) → List ℕ → Option ℕ
one_of_size [] rest = None
one_of_size (text ∷ texts) rest = if starts_with nat_eq rest text then Some (length text) else one_of_size texts rest

-- a tag and n hexadecimal digits
unfoldable pub tagged_size : List ℕ → ℕ → List ℕ → Option ℕ
tagged_size tag n rest = if starts_with nat_eq rest tag then option_map (λ k. k + 1) (hex_size n (drop 1 rest)) else None

-- a key text with the tag Z, U or T: one, two or three parts
unfoldable pub zut_size : List ℕ → Option ℕ
zut_size rest = option_or (tagged_size (codes "Z") 16 rest) (option_or (tagged_size (codes "U") 32 rest) (tagged_size (codes "T") 48 rest))

-- a key text with the tag X or Y: two or three parts
unfoldable pub xy_size : List ℕ → Option ℕ
xy_size rest = option_or (tagged_size (codes "X") 32 rest) (tagged_size (codes "Y") 48 rest)

-- a key text, by its form
unfoldable pub key_size : KeyForm → List ℕ → Option ℕ
key_size K rest = option_or (hex_size 16 rest) (zut_size rest)
key_size P rest = option_or (hex_size 32 rest) (tagged_size (codes "U") 32 rest)
key_size W rest = option_or (hex_size 16 rest) (option_or (zut_size rest) (xy_size rest))
key_size F0 rest = option_or (hex_size 16 rest) (zut_size rest)
key_size F1 rest = option_or (hex_size 32 rest) (zut_size rest)
key_size F2 rest = zut_size rest
