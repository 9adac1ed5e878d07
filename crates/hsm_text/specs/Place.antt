-- A position in a source.
use Rattle.std.specs.Prelude.{ℕ, ◌+◌, ◌≤◌, List, [], length, take, drop, Option, Some, None}
use Rattle.hsm_text.specs.declared.scan.Scan.TheInside.{Inside}

-- `at` bytes of the source are passed
pub record Place : Type 0 where
  pub source : List ℕ
  pub at : ℕ

-- the place that a scanner keeps
abbrev pub place_of : Inside → Place
place_of s = record { source = s.bytes.now; at = s.at }

-- the position is in the source or at its end
abbrev pub IsWithin : Inside → Type 0
IsWithin s = s.at ≤ length s.bytes.now

-- what is left to read
abbrev pub rest_of : Place → List ℕ
rest_of p = drop p.at p.source

-- the place past a text of this size, or the same place where there is none
abbrev pub past : Option ℕ → Place → Place
past None p = p
past (Some n) p = record { source = p.source; at = p.at + n }

-- the text of this size at the front
abbrev pub front : Option ℕ → List ℕ → List ℕ
front None rest = []
front (Some n) rest = take n rest
