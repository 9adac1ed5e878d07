-- What the calls of a receiver do to the bytes that it holds.
use Rattle.std.specs.Prelude.{◌≡◌, ℕ, ◌<◌, List, [], ◌∷◌, ◌++◌, length}
use Rattle.hsm_frame.specs.Frames.{IsMessage, IsPart, IsShort, frame}

-- what a receiver holds, and the least length of a message
pub record Held : Type 0 where
  pub least : ℕ
  pub bytes : List ℕ

-- what `next` answers
pub data Answer : Type 0 where
  NotYet : Answer
  Short : ℕ → Answer
  Message : List ℕ → Answer

-- neither a whole frame nor a length below the least
abbrev pub IsNotYet : ℕ → List ℕ → Type 0
IsNotYet least [] = Unit {0}
IsNotYet least (byte ∷ bytes) = IsPart least (byte ∷ bytes)

-- The answer for what was held, and what is held afterwards. A message goes from the front. After `NotYet` there is room
-- for a byte.
abbrev pub Answers : Held → Answer → Held → Type 0
Answers old NotYet new = IsNotYet old.least old.bytes × (length old.bytes < 65537) × (new ≡ old)
Answers old (Short n) new = IsShort old.least n old.bytes × (new ≡ old)
Answers old (Message m) new = IsMessage old.least m × (old.bytes ≡ frame m ++ new.bytes) × (new.least ≡ old.least)

-- a call of `feed`, with the bytes that it took, or one of `next`, with its answer
pub data Call : Type 0 where
  Feed : List ℕ → Call
  Next : Answer → Call

-- what these calls, one after another, leave held
abbrev pub Run : Held → List Call → Held → Type 0
Run old [] new = new ≡ old
Run old (Feed taken ∷ calls) new = Run (record old { bytes = old.bytes ++ taken }) calls new
Run old (Next answer ∷ calls) new = (between : Held) × Answers old answer between × Run between calls new

-- all bytes that were fed
abbrev pub fed : List Call → List ℕ
fed [] = []
fed (Feed taken ∷ calls) = taken ++ fed calls
fed (Next answer ∷ calls) = fed calls

-- all messages that were handed out
abbrev pub handed_out : List Call → List (List ℕ)
handed_out [] = []
handed_out (Next (Message m) ∷ calls) = m ∷ handed_out calls
handed_out (Next NotYet ∷ calls) = handed_out calls
handed_out (Next (Short n) ∷ calls) = handed_out calls
handed_out (Feed taken ∷ calls) = handed_out calls
