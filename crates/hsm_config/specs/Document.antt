-- A document, and what stands at its keys.
use Rattle.std.specs.Prelude.{ℕ, ℤ, pos, negsuc, Bool, false, ◌&&◌, ◌==◌, nat_le, if◌then◌else◌, List, [], ◌∷◌, length, map, Option, Some, None, option_and_then}
use Rattle.std.specs.List.{list_all}
use Rattle.std.specs.Str.{is_utf8}
use Rattle.std.specs.Result.{result_unwrap_or}
use Rattle.hex.specs.Hex.{decode_of, is_hex_digit}
use Rattle.toml.specs.Data.{Data, Items, no_items, item, Members, no_members, member, as_array, as_integer, as_str, get_member}
use Rattle.toml.specs.Parse.{parse_document}

-- the document that bytes are: the top-level table that `toml` reads from a text in UTF-8
abbrev pub document_of : List ℕ → Option Members
document_of bytes = if is_utf8 bytes then parse_document bytes else None

-- the top-level keys
abbrev pub keys_of : Members → List (List ℕ)
keys_of no_members = []
keys_of (member key value rest) = key ∷ keys_of rest

-- the elements of an array
abbrev pub list_of : Items → List Data
list_of no_items = []
list_of (item value rest) = value ∷ list_of rest

abbrev pub listed : Option Items → List Data
listed None = []
listed (Some items) = list_of items

-- the elements of the array at a key, and none where no array stands there
abbrev pub elements_at : List ℕ → Members → List Data
elements_at key document = listed (option_and_then as_array (get_member key document))

-- the text at a key, if one stands there
abbrev pub string_at : List ℕ → Members → Option (List ℕ)
string_at key document = option_and_then as_str (get_member key document)

abbrev pub natural : ℤ → Option ℕ
natural (pos n) = Some n
natural (negsuc n) = None

-- the number that a value is, if it is an integer and not negative
abbrev pub integer_of : Data → Option ℕ
integer_of value = option_and_then natural (as_integer value)

-- the number at a key, if one stands there
abbrev pub number_at : List ℕ → Members → Option ℕ
number_at key document = option_and_then integer_of (get_member key document)

-- a number of this range
abbrev pub is_within : ℕ → ℕ → Option ℕ → Bool
is_within least most None = false
is_within least most (Some n) = nat_le least n && nat_le n most

-- a text of so many hexadecimal digits, of either case
abbrev pub is_hex : ℕ → Option (List ℕ) → Bool
is_hex digits None = false
is_hex digits (Some text) = (length text == digits) && list_all is_hex_digit text

-- so many texts of so many hexadecimal digits
abbrev pub are_hex : ℕ → ℕ → List Data → Bool
are_hex count digits values = (length values == count) && list_all (λ value. is_hex digits (as_str value)) values

-- the bytes of a text of hexadecimal digits
abbrev pub hex_bytes : Option (List ℕ) → List ℕ
hex_bytes None = []
hex_bytes (Some text) = result_unwrap_or (decode_of text) []

-- the bytes of each of some texts
abbrev pub all_hex_bytes : List Data → List (List ℕ)
all_hex_bytes values = map (λ value. hex_bytes (as_str value)) values
