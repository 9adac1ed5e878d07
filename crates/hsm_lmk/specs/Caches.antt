-- What contracts see of a cache of opened keys.
use Rattle.std.specs.Prelude.{ℕ, List, [], Option, Some, None}
use Rattle.circular_buffer.specs.Buffer.{Buffer}
use Rattle.hsm_lmk.specs.Cache.{Kept}
use Rattle.hsm_lmk.specs.declared.kept.KeyCache.{KeyCache}
use Rattle.hsm_lmk.specs.declared.kept.KeyEntry.{KeyEntry}

-- the entries of the ring, if there is one
abbrev pub entries_in : Option (Buffer KeyEntry) → List KeyEntry
entries_in None = []
entries_in (Some ring) = ring.items

-- how many it may hold
abbrev pub room_in : Option (Buffer KeyEntry) → ℕ
room_in None = 0
room_in (Some ring) = ring.capacity

-- its entries and its hits
abbrev pub kept_in : KeyCache → Kept
kept_in cache = record { entries = entries_in cache.ring; hits = cache.hits }

-- how many entries it keeps at most
abbrev pub capacity_of : KeyCache → ℕ
capacity_of cache = room_in cache.ring
