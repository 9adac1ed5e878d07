-- The rules of a configuration's document, each a test of the document.
use Rattle.std.specs.Prelude.{ℕ, ◌+◌, ◌*◌, ◌==◌, Bool, true, false, ◌&&◌, ◌||◌, not, nat_le, List, [], ◌∷◌, ◌++◌, length, map, replicate, unwrap_or, Option, Some, None, if◌then◌else◌, codes}
use Rattle.std.specs.List.{list_all, list_any, position_from}
use Rattle.std.specs.Str.{bytes_eq}
use Rattle.toml.specs.Data.{Data, Members}
use Rattle.hsm_parity.specs.Parity.{adjusted_byte}
use Rattle.hsm_parity.specs.Parity.{has_odd_parity}
use Rattle.hsm_config.specs.Document.{keys_of, elements_at, string_at, number_at, integer_of, is_within, are_hex, all_hex_bytes}

-- the seven keys
abbrev pub known_keys : List (List ℕ)
known_keys =
    codes "version" ∷ codes "header" ∷ codes "officers" ∷ codes "lmk" ∷ codes "console_port" ∷ codes "host_ports" ∷ codes "accept" ∷ []

unfoldable pub is_known : List ℕ → Bool
is_known key = list_any (λ known. bytes_eq key known) known_keys

-- a text that is the word `test`
abbrev pub is_test : Option (List ℕ) → Bool
is_test None = false
is_test (Some text) = bytes_eq text (codes "test")

-- the numbers of the pairs
abbrev pub pair_numbers : List ℕ
pair_numbers = 0 ∷ 1 ∷ 2 ∷ 3 ∷ 4 ∷ 5 ∷ 6 ∷ 7 ∷ 8 ∷ 9 ∷ 10 ∷ 11 ∷ 12 ∷ 13 ∷ 14 ∷ 15 ∷ 16 ∷ 17 ∷ 18 ∷ 19 ∷ []

-- a pair of which each half is one byte, made odd, eight times
abbrev pub repeated_pair : ℕ → ℕ → List ℕ
repeated_pair left right = replicate 8 (adjusted_byte left) ++ replicate 8 (adjusted_byte right)

-- the LMK pairs of the test set
unfoldable pub test_pairs : List (List ℕ)
test_pairs = map (λ k. repeated_pair (32 + 2 * k) (96 + 2 * k)) pair_numbers

-- every byte of the pairs has odd parity
abbrev pub are_odd : List (List ℕ) → Bool
are_odd pairs = list_all (λ pair. list_all has_odd_parity pair) pairs

-- the LMK pairs that a document says
unfoldable pub pairs_of : Members → List (List ℕ)
pairs_of document = if is_test (string_at (codes "lmk") document) then test_pairs else all_hex_bytes (elements_at (codes "lmk") document)

-- the digests of the officers' words that a document says
unfoldable pub officers_of : Members → List (List ℕ)
officers_of document = all_hex_bytes (elements_at (codes "officers") document)

-- the number at a key, and 0 where none stands there
abbrev pub number_or_zero : List ℕ → Members → ℕ
number_or_zero key document = unwrap_or (number_at key document) 0

-- the ports of the host lanes that a document says
unfoldable pub host_ports_of : Members → List ℕ
host_ports_of document = map (λ port. unwrap_or (integer_of port) 0) (elements_at (codes "host_ports") document)

-- 1 to 64 integers of 1 to 65535
abbrev pub are_ports : List Data → Bool
are_ports values = (nat_le 1 (length values) && nat_le (length values) 64) && list_all (λ port. is_within 1 65535 (integer_of port)) values

-- no two of the numbers are equal
abbrev pub all_different : List ℕ → Bool
all_different [] = true
all_different (n ∷ rest) = not (list_any (λ m. m == n) rest) && all_different rest

-- 1: every top-level key is one of the seven
abbrev pub has_known_keys : Members → Bool
has_known_keys document = list_all is_known (keys_of document)

-- 2: the version is the integer 1
abbrev pub has_version : Members → Bool
has_version document = is_within 1 1 (number_at (codes "version") document)

-- 3: the header's length is an integer of 0 to 255
abbrev pub has_header : Members → Bool
has_header document = is_within 0 255 (number_at (codes "header") document)

-- 4: the officers are an array of two texts of 64 hexadecimal digits
abbrev pub has_officers : Members → Bool
has_officers document = are_hex 2 64 (elements_at (codes "officers") document)

-- 5: the LMK set is the text `test` or an array of 20 texts of 32 hexadecimal digits
abbrev pub has_pairs : Members → Bool
has_pairs document = is_test (string_at (codes "lmk") document) || are_hex 20 32 (elements_at (codes "lmk") document)

-- 6: every byte of the LMK pairs has odd parity
abbrev pub has_odd_pairs : Members → Bool
has_odd_pairs document = are_odd (pairs_of document)

-- 7: the console's port is an integer of 1 to 65535
abbrev pub has_console_port : Members → Bool
has_console_port document = is_within 1 65535 (number_at (codes "console_port") document)

-- 8: the host ports are an array of 1 to 64 integers of 1 to 65535
abbrev pub has_host_ports : Members → Bool
has_host_ports document = are_ports (elements_at (codes "host_ports") document)

-- 9: the ports are all different, the console's among them
abbrev pub has_different_ports : Members → Bool
has_different_ports document = all_different (number_or_zero (codes "console_port") document ∷ host_ports_of document)

-- 10: the number of connections is an integer of 1 to 4096
abbrev pub has_accept : Members → Bool
has_accept document = is_within 1 4096 (number_at (codes "accept") document)

-- the rules of a document of version 1, in order; the first has the number 1
abbrev pub version_1 : List (Members → Bool)
version_1 =
    has_known_keys ∷ has_version ∷ has_header ∷ has_officers ∷ has_pairs ∷ has_odd_pairs
    ∷ has_console_port ∷ has_host_ports ∷ has_different_ports ∷ has_accept ∷ []

-- the number of the first rule that a document breaks, counted from 1
unfoldable pub first_broken : Members → Option ℕ
first_broken document = position_from (λ rule. not (rule document)) 1 version_1
