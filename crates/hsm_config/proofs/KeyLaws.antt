-- The keys of a table.
use Rattle.std.proofs.Common.{◌≡◌, List, [], ◌∷◌, ◌&&◌, Bool, true, false, String, Global, string_bytes, refl, ap}
use Rattle.std.specs.List.{list_all}
use Rattle.std.specs.Map.{keys_of as map_keys}
use Rattle.toml.specs.View.{members_view}
use Rattle.toml.specs.declared.value.Value.{Value}
use Rattle.hsm_config.specs.Document.{keys_of}
use Rattle.hsm_config.specs.Rules.{has_known_keys, is_known}

-- each of the keys is one of the seven
abbrev pub all_known : List (String Global) → Bool
all_known keys = list_all (λ key. is_known (string_bytes key)) keys

keys_pass : (entries : List (String Global × Value)) → all_known (map_keys entries) ≡ list_all is_known (keys_of (members_view entries))
keys_pass [] = refl
keys_pass (entry ∷ rest) = ap (λ (b : Bool). is_known (string_bytes entry.0) && b) (keys_pass rest)

-- the keys of the map are those of the document
pub known_keys_are : (entries : List (String Global × Value)) → all_known (map_keys entries) ≡ has_known_keys (members_view entries)
known_keys_are entries = keys_pass entries

pub one_unknown : (key : String Global) (keys rest : List (String Global)) → keys ≡ key ∷ rest → is_known (string_bytes key) ≡ false → all_known keys ≡ false
one_unknown key keys rest is unknown = rw (is, unknown) refl

pub one_known : (key : String Global) (keys rest : List (String Global)) → keys ≡ key ∷ rest → is_known (string_bytes key) ≡ true → all_known keys ≡ all_known rest
one_known key keys rest is known = rw (is, known) refl
