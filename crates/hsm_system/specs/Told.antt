-- What a call tells is what std answered: where std knows the bytes that a reader has left, or those that a writer holds,
-- they are changed by just what is told. What is left of a reader, or held by a writer, stands before and after the call.
use Rattle.std.specs.Prelude.{ℕ, ◌/◌, ◌^◌, min, List, [], take, Option, Result, Ok, Err}
use Rattle.std.specs.declared.time.SystemTime.{SystemTime}
use Rattle.std.specs.Time.{system_time_nanos}
use Rattle.std.specs.Io.KnownBytes.{Keeps, Appends, Consumes, IsAtEnd}
use Rattle.hsm_io.specs.declared.source.Got.{Got}
use Rattle.hsm_io.specs.declared.source.Got.TheVariants.{Bytes, End, Failed as GotFailed}
use Rattle.hsm_io.specs.declared.sink.Put.{Put}
use Rattle.hsm_io.specs.declared.sink.Put.TheVariants.{Took, Failed as PutFailed}

-- The n bytes in front of the room are those that the reader gave. At the end it has none left. Where the read failed it
-- gave none.
abbrev pub TellsRead : Option (List ℕ) → Option (List ℕ) → List ℕ → Got → Type 0
TellsRead before after room (Bytes n) = Consumes before after (take n room)
TellsRead before after room End = Consumes before after [] × IsAtEnd after
TellsRead before after room GotFailed = Keeps before after

-- The writer took the first n bytes of the piece. Where the write failed it took none.
abbrev pub TellsWrite : Option (List ℕ) → Option (List ℕ) → List ℕ → Put → Type 0
TellsWrite before after piece (Took n) = Appends before after (take n piece)
TellsWrite before after piece PutFailed = Keeps before after

-- the whole seconds from the beginning of 1970 to this time
abbrev pub seconds_of : SystemTime → ℕ
seconds_of time = system_time_nanos time / 1_000_000_000

-- the moment of the time that the system told, or the last one where it told none, held to 2 ^ 40
abbrev pub moment_of : {E : Type 0} → Result SystemTime E → ℕ → ℕ
moment_of (Ok time) last = min (seconds_of time) (2 ^ 40)
moment_of (Err e) last = min last (2 ^ 40)
