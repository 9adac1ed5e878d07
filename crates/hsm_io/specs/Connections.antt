-- What a connection and a door tell, and what their calls do.
use Rattle.std.specs.Prelude.{◌≡◌, ◌≤◌, ◌+◌, ◌-◌, ◌^◌, min, max, ℕ, zero, suc, List, [], ◌∷◌, ◌++◌, length, take, Bool, true, false, MatchBool, Option, Some, ⊤}
use Rattle.hsm_io.specs.declared.source.Got.{Got}
use Rattle.hsm_io.specs.declared.source.Got.TheVariants.{Bytes, End as GotEnd, Failed as GotFailed}
use Rattle.hsm_io.specs.declared.sink.Put.{Put}
use Rattle.hsm_io.specs.declared.sink.Put.TheVariants.{Took, Failed as PutFailed}
use Rattle.hsm_io.specs.declared.door.Came.{Came}
use Rattle.hsm_io.specs.declared.door.Came.TheVariants.{Link, End, Failed}

-- what passed over a connection: the bytes read so far, the bytes left to read, and the bytes written
pub record Traffic : Type 0 where
  pub was_read : List ℕ
  pub left : List ℕ
  pub written : List ℕ

-- a connection of which nothing was read or written
abbrev pub silent : List ℕ → Traffic
silent bytes = record { was_read = []; left = bytes; written = [] }

-- The first bytes were read from the front of what was left, and the second were written.
pub record Exchanges (before after : Traffic) (heard said : List ℕ) : Type 0 where
  pub left : before.left ≡ heard ++ after.left
  pub was_read : after.was_read ≡ before.was_read ++ heard
  pub written : after.written ≡ before.written ++ said

-- Where told, of the connection nothing was read or written.
abbrev pub IsSilent : Option Traffic → Type 0
IsSilent traffic = (t : Traffic) → traffic ≡ Some t → (t.was_read ≡ []) × (t.written ≡ [])

-- As a read of a source, and nothing was written.
abbrev pub ReadLink : Option Traffic → Option Traffic → List ℕ → Got → Type 0
ReadLink before after room (Bytes n) = (1 ≤ n) × (n ≤ length room) × ((s : Traffic) → before ≡ Some s →
    (t : Traffic) × (after ≡ Some t) × Exchanges s t (take n room) [])
ReadLink before after room GotEnd = (after ≡ before) × ((t : Traffic) → before ≡ Some t → t.left ≡ [])
ReadLink before after room GotFailed = after ≡ before

-- As a write to a sink, and nothing was read.
abbrev pub WriteLink : Option Traffic → Option Traffic → List ℕ → Put → Type 0
WriteLink before after piece (Took n) = (1 ≤ n) × (n ≤ length piece) × ((s : Traffic) → before ≡ Some s →
    (t : Traffic) × (after ≡ Some t) × Exchanges s t [] (take n piece))
WriteLink before after piece PutFailed = after ≡ before

-- Whether the last failed call was a read: as this call says where it failed, else as before.
abbrev pub LastFailed : Bool → Bool → Bool → Bool → Type 0
LastFailed is_read before after failed = MatchBool failed (after ≡ is_read) (after ≡ before)

-- a connection that was taken back, with its count of faults
pub record Taken : Type 0 where
  pub traffic : Traffic
  pub faults : ℕ

-- the connections to come, each by the bytes that it will give, and those taken back
pub record Doorway : Type 0 where
  pub to_come : List (List ℕ)
  pub taken : List Taken

-- whether asking for a connection failed
abbrev pub has_came_failed : {K : Type 0} → Came K → Bool
has_came_failed (Link k) = false
has_came_failed End = false
has_came_failed Failed = true

-- The first connection to come is given, and nothing of it was read or written. The door ends only where none is to come.
abbrev pub Comes : {K : Type 0} → Option Doorway → Option Doorway → (K → Option Traffic) → Came K → Type 0
Comes before after traffic (Link k) = (d : Doorway) → before ≡ Some d → (bytes : List ℕ) × (rest : List (List ℕ)) ×
    (d.to_come ≡ bytes ∷ rest) × (traffic k ≡ Some (silent bytes)) × (after ≡ Some (record { to_come = rest; taken = d.taken }))
Comes before after traffic End = (after ≡ before) × ((d : Doorway) → before ≡ Some d → d.to_come ≡ [])
Comes before after traffic Failed = after ≡ before

-- A connection that is given has not failed, and where told nothing of it was read or written.
abbrev pub IsNew : {K : Type 0} → (K → Option Traffic) → (K → ℕ) → Came K → Type 0
IsNew traffic faults (Link k) = (faults k ≡ 0) × IsSilent (traffic k)
IsNew traffic faults End = ⊤
IsNew traffic faults Failed = ⊤

-- A connection is out exactly where one was given.
abbrev pub IsOutAfter : {K : Type 0} → Bool → Came K → Type 0
IsOutAfter out (Link k) = out ≡ true
IsOutAfter out End = out ≡ false
IsOutAfter out Failed = out ≡ false

-- The connection is appended to those taken back.
abbrev pub TakesBack : Option Doorway → Option Doorway → Option Traffic → ℕ → Type 0
TakesBack before after traffic faults = (d : Doorway) → before ≡ Some d → (t : Traffic) → traffic ≡ Some t →
    after ≡ Some (record { to_come = d.to_come; taken = d.taken ++ (record { traffic = t; faults = faults }) ∷ [] })

-- The number of failed connections rises by one, up to its last value, exactly where this one had failed.
abbrev pub Breaks : ℕ → ℕ → ℕ → Type 0
Breaks before after zero = after ≡ before
Breaks before after (suc n) = after ≡ max before (min (before + 1) (2 ^ 64 - 1))
