-- Blocks between IP and its inverse, as two halves in wide form.
use Rattle.std.specs.Prelude.{ℕ}
use Rattle.hsm_des.specs.Bits.{number, pick}
use Rattle.hsm_des.specs.Tables.{final_permutation}
use Rattle.hsm_des.specs.Des.{Halves, joined}
use Rattle.hsm_des.specs.Words.{IsWide, half_of}

-- the halves that two words hold, the left one first
abbrev pub held : ℕ × ℕ → Halves
held words = record { left = half_of words.0; right = half_of words.1 }

-- each of the two words is the wide form of a half
abbrev pub AreWide : ℕ × ℕ → Type 0
AreWide words = IsWide words.0 × IsWide words.1

-- the block of which these are the halves: the inverse of IP on them
unfoldable pub block_held : ℕ × ℕ → ℕ
block_held words = number (pick final_permutation (joined (held words)))
