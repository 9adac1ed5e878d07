-- The calls that a gate gets.
use Rattle.std.specs.Prelude.{ℕ, zero, suc, ◌+◌, List, [], ◌∷◌, ◌++◌}

-- A call of a gate: of which lane and which message, before the message was booked or after it.
pub data GateCall : Type 0 where
  before : (lane message : ℕ) → GateCall
  after : (lane message : ℕ) → GateCall

-- one call before each of so many messages of a lane, from this one on, in their order
abbrev pub calls_before : ℕ → ℕ → ℕ → List GateCall
calls_before lane first zero = []
calls_before lane first (suc count) = before lane first ∷ calls_before lane (first + 1) count

-- one call after each of them, in their order
abbrev pub calls_after : ℕ → ℕ → ℕ → List GateCall
calls_after lane first zero = []
calls_after lane first (suc count) = after lane first ∷ calls_after lane (first + 1) count

-- the calls around batches of these sizes of the messages of a lane, from this one on: for each batch in turn those before its messages, and then those after them
abbrev pub batch_calls : ℕ → ℕ → List ℕ → List GateCall
batch_calls lane first [] = []
batch_calls lane first (size ∷ sizes) = calls_before lane first size ++ calls_after lane first size ++ batch_calls lane (first + size) sizes
