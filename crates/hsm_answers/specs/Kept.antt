-- The keys that a message's checks open under the LMK, as entries of a cache.
use Rattle.std.specs.Prelude.{◌≡◌, ℕ, ◌&&◌, if◌then◌else◌, List, [], ◌∷◌, ◌++◌, Option, Some, None, is_some, Result, Ok, Err}
use Rattle.hsm_types.specs.declared.types.KeyType.{KeyType}
use Rattle.hsm_lmk.specs.Cache.{Agrees, kept_all}
use Rattle.hsm_lmk.specs.Caches.{capacity_of, kept_in}
use Rattle.hsm_lmk.specs.Opened.{opened}
use Rattle.hsm_lmk.specs.Pairs.{set_at}
use Rattle.hsm_lmk.specs.Sealing.{wrap}
use Rattle.hsm_lmk.specs.declared.kept.KeyCache.{KeyCache}
use Rattle.hsm_lmk.specs.declared.kept.KeyEntry.{KeyEntry}
use Rattle.hsm_auth.specs.declared.activity.Place.{Place}
use Rattle.hsm_auth.specs.declared.activity.Place.TheVariants.{Host, Console}
use Rattle.hsm_rows.specs.declared.settings.Module.{Module}
use Rattle.hsm_rows.specs.declared.row.Code.{Code}
use Rattle.hsm_rows.specs.declared.rules.KeyCheck.{KeyCheck}
use Rattle.hsm_rows.specs.declared.rules.KeyCheck.TheVariants.{GivenKey, Target}
use Rattle.hsm_rows.specs.declared.rules.Under.TheVariants.{Lmk, KeyAt}
use Rattle.hsm_rows.specs.Reading.{is_end}
use Rattle.hsm_rows.specs.Table.{RowShape}
use Rattle.hsm_answers.specs.Read.{ReadMessage, message_read}
use Rattle.hsm_answers.specs.Keys.{KeyData, field_text, key_data, key_fault, type_of}
use Rattle.hsm_answers.specs.Checks.{is_loaded}
use Rattle.hsm_answers.specs.Messages.{command_of, enabled_row, text_after}

-- each key that the cache keeps is the one that its text opens to under its LMK set
abbrev pub IsCacheOf : Module → KeyCache → Type 0
IsCacheOf m cache = Agrees m.lmks.items (kept_in cache).entries

-- these keys were opened one after another: the cache keeps them as it is to, and is one of the module's
pub record Opens (m : Module) (before after : KeyCache) (keys : List KeyEntry) : Type 0 where
  pub agrees : IsCacheOf m after
  pub capacity : capacity_of after ≡ capacity_of before
  pub kept : kept_in after ≡ kept_all (capacity_of before) (kept_in before) keys

-- the entry of a key text of the type under set n
abbrev pub entry_for : List (List (List (List ℕ))) → ℕ → KeyType → Option KeyData → List KeyEntry
entry_for sets n ty None = []
entry_for sets n ty (Some k) =
    record { set = n; ty = ty; scheme = k.scheme; text = record { items = k.bytes }; key = opened (wrap (set_at sets n) ty) k.scheme k.bytes } ∷ []

-- the entry of a check: of a key under the LMK, but none of an absent wrapping key
abbrev pub check_entries : ReadMessage → KeyCheck → List KeyEntry
check_entries q (GivenKey k Lmk ty wraps rule parity) =
    if wraps && is_end (field_text q.read k) then [] else entry_for q.«module».lmks.items q.read.set (type_of q.read ty) (key_data q.read k)
check_entries q (GivenKey k (KeyAt kek) ty wraps rule parity) = []
check_entries q (Target ty k second) = []

-- those of the checks in their order, up to the first that fails
abbrev pub checks_entries : ReadMessage → List KeyCheck → List KeyEntry
checks_entries q [] = []
checks_entries q (c ∷ cs) = if is_some (key_fault q c) then [] else check_entries q c ++ checks_entries q cs

-- none where the fields don't read or the set isn't loaded
abbrev pub read_entries : Result ReadMessage Code → List KeyEntry
read_entries (Err code) = []
read_entries (Ok q) = if is_loaded q then checks_entries q q.rules.keys else []

-- what a message of the row opens; the text is what follows the command code
unfoldable pub opened_by : Module → RowShape → List ℕ → List KeyEntry
opened_by m row text = read_entries (message_read m row text)

-- what a host's message in the row opens; a command in no row opens nothing
abbrev pub opened_in : Module → List ℕ → Option RowShape → List KeyEntry
opened_in m message None = []
opened_in m message (Some row) = opened_by m row (text_after m Host message)

-- what a message opens; the console's open nothing
abbrev pub opened_of : Module → Place → List ℕ → List KeyEntry
opened_of m Host message = opened_in m message (enabled_row m Host (command_of m Host message))
opened_of m Console message = []
