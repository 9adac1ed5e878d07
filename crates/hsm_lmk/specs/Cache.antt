-- Keys that were opened under LMK pairs, kept by their sets, types, schemes and texts.
use Rattle.std.specs.Prelude.{◌≡◌, ℕ, ◌+◌, ◌^◌, ◌<◌, ◌==◌, Bool, ◌&&◌, if◌then◌else◌, min, nat_lt, List, [], ◌∷◌, ◌++◌, length, drop, find, is_some, Option, All, Ok}
use Rattle.std.specs.Str.{bytes_eq}
use Rattle.hsm_types.specs.KeyTypes.{same_type}
use Rattle.hsm_types.specs.Schemes.{same_scheme, scheme_parts}
use Rattle.hsm_types.specs.Table.{allows_length}
use Rattle.hsm_types.specs.declared.types.KeyType.{KeyType}
use Rattle.hsm_types.specs.declared.types.Scheme.{Scheme}
use Rattle.hsm_lmk.specs.Opened.{open_answer}
use Rattle.hsm_lmk.specs.Opening.{refuses_scheme}
use Rattle.hsm_lmk.specs.Pairs.{set_at}
use Rattle.hsm_lmk.specs.Sealing.{wrap}
use Rattle.hsm_lmk.specs.declared.kept.KeyEntry.{KeyEntry}

-- the entry has this set, this type, this scheme and this text
abbrev pub is_of : ℕ → KeyType → Scheme → List ℕ → KeyEntry → Bool
is_of n ty s text e = e.set == n && (same_type e.ty ty && (same_scheme e.scheme s && bytes_eq e.text.items text))

-- the first entry that has them
abbrev pub entry_of : ℕ → KeyType → Scheme → List ℕ → List KeyEntry → Option KeyEntry
entry_of n ty s text entries = find (is_of n ty s text) entries

-- the entries, the oldest first, and how often a key was found among them
pub record Kept : Type 0 where
  pub entries : List KeyEntry
  pub hits : ℕ

-- where they are more than the capacity the oldest goes
abbrev pub within : ℕ → List KeyEntry → List KeyEntry
within capacity entries = if nat_lt capacity (length entries) then drop 1 entries else entries

-- after one more key was opened: an entry that has its set, type, scheme and text counts as found and nothing moves; else the key is appended
unfoldable pub kept_one : ℕ → Kept → KeyEntry → Kept
kept_one capacity kept e =
    if is_some (entry_of e.set e.ty e.scheme e.text.items kept.entries) then record { entries = kept.entries; hits = min (kept.hits + 1) (2 ^ 63) }
    else record { entries = within capacity (kept.entries ++ e ∷ []); hits = kept.hits }

-- after these keys were opened, one after another
abbrev pub kept_all : ℕ → Kept → List KeyEntry → Kept
kept_all capacity kept [] = kept
kept_all capacity kept (e ∷ es) = kept_all capacity (kept_one capacity kept e) es

-- the set of an entry is loaded, and what opening its text under that set answers is its key
abbrev pub IsEntry : List (List (List (List ℕ))) → KeyEntry → Type 0
IsEntry sets e =
    (e.set < length sets)
    × (open_answer (refuses_scheme e.ty e.scheme) (allows_length e.ty (scheme_parts e.scheme)) (wrap (set_at sets e.set) e.ty) e.scheme e.text.items ≡ Ok e.key)

-- the entries agree with the sets: each has the key that its text opens to under its set
abbrev pub Agrees : List (List (List (List ℕ))) → List KeyEntry → Type 0
Agrees sets entries = All (IsEntry sets) entries
