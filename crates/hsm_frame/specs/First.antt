-- What bytes begin with.
use Rattle.std.specs.Prelude.{◌≡◌, ℕ, ◌+◌, ◌<◌, ◌≤◌, List, ◌++◌, length, drop}
use Rattle.std.specs.Int.{w16, to_be_bytes}
use Rattle.hsm_frame.specs.Frames.{IsShort}
use Rattle.hsm_frame.specs.Calls.{IsNotYet}
use Rattle.hsm_frame.specs.declared.First.{First}
use Rattle.hsm_frame.specs.declared.First.TheVariants.{NotYet, Short, Whole}

-- nothing whole yet, a length below the least, or a whole frame with a message of n bytes
abbrev pub BeginsWith : ℕ → List ℕ → First → Type 0
BeginsWith least held NotYet = IsNotYet least held × (length held < 65537)
BeginsWith least held (Short n) = IsShort least n held
BeginsWith least held (Whole n) = (least ≤ n) × (n + 2 ≤ length held) × (held ≡ to_be_bytes w16 n ++ drop 2 held)
