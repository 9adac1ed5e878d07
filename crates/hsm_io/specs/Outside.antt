-- What a read and a write do, and how their faults are counted.
use Rattle.std.specs.Prelude.{◌≡◌, ◌≤◌, ◌+◌, ◌-◌, ◌^◌, min, ℕ, List, ◌++◌, [], length, take, Bool, true, false, IsTrue, IsFalse, Option, Some}
use Rattle.hsm_io.specs.Stream.{Stream, Passes}
use Rattle.hsm_io.specs.declared.source.Got.{Got}
use Rattle.hsm_io.specs.declared.source.Got.TheVariants.{Bytes, End, Failed as GotFailed}
use Rattle.hsm_io.specs.declared.sink.Put.{Put}
use Rattle.hsm_io.specs.declared.sink.Put.TheVariants.{Took, Failed as PutFailed}

-- A count is greater than before, or stands at its last value.
abbrev pub Rose : ℕ → ℕ → Type 0
Rose before now = min (before + 1) (2 ^ 64 - 1) ≤ now

-- A count never falls. It rises in a call that failed, and in no other.
pub record HasCause (before now : ℕ) (failed : Bool) : Type 0 where
  pub later : before ≤ now
  pub rose : IsTrue failed → Rose before now
  pub kept : IsFalse failed → now ≡ before

-- whether a read failed
abbrev pub has_got_failed : Got → Bool
has_got_failed (Bytes n) = false
has_got_failed End = false
has_got_failed GotFailed = true

-- whether a write failed
abbrev pub has_put_failed : Put → Bool
has_put_failed (Took n) = false
has_put_failed PutFailed = true

-- The first n bytes of what was left stand in the front of the room. At the end nothing is left. A read that gave no
-- bytes changed nothing.
abbrev pub Read : Option Stream → Option Stream → List ℕ → Got → Type 0
Read before after room (Bytes n) = (1 ≤ n) × (n ≤ length room) × ((s : Stream) → before ≡ Some s →
    (t : Stream) × (after ≡ Some t) × Passes s t (take n room))
Read before after room End = (after ≡ before) × ((s : Stream) → before ≡ Some s → s.left ≡ [])
Read before after room GotFailed = after ≡ before

-- The first n bytes of the piece were appended. A write that failed appended nothing.
abbrev pub Write : (List ℕ → Type 0) → (List ℕ → Type 0) → List ℕ → Put → Type 0
Write before after piece (Took n) = (1 ≤ n) × (n ≤ length piece) × ((text : List ℕ) → before text → after (text ++ take n piece))
Write before after piece PutFailed = (text : List ℕ) → before text → after text
