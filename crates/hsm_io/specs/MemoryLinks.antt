-- A connection and a door in memory: what each holds, and what each call answers and leaves.
use Rattle.std.specs.Prelude.{◌≡◌, ℕ, ◌+◌, ◌-◌, ◌^◌, ◌==◌, min, List, [], ◌∷◌, ◌++◌, map, drop, Bool, true, false, if◌then◌else◌}
use Rattle.hsm_io.specs.Outside.{has_got_failed, has_put_failed}
use Rattle.hsm_io.specs.Connections.{Traffic, Taken, Doorway}
use Rattle.hsm_io.specs.MemoryForms.{one_more, is_listed, FileState, got_of, after_read, SinkState, put_of, after_write}
use Rattle.hsm_io.specs.declared.source.Got.{Got}
use Rattle.hsm_io.specs.declared.sink.Put.{Put}
use Rattle.hsm_io.specs.declared.door.Came.{Came}
use Rattle.hsm_io.specs.declared.door.Came.TheVariants.{Link, End, Failed}

-- A link in memory: what is read from it, as from a file; how many bytes a read gives at most; what is written to it, as
-- to a sink; and whether its last failed call was a read.
pub record LinkState : Type 0 where
  pub input : FileState
  pub chunk : ℕ
  pub output : SinkState
  pub last_was_read : Bool

-- what a link in memory tells
abbrev pub traffic_of : LinkState → Traffic
traffic_of link = record { was_read = link.input.stream.was_read; left = link.input.stream.left; written = link.output.bytes }

-- how many reads and writes have failed, up to the last value of a count
abbrev pub faults_of : LinkState → ℕ
faults_of link = min (link.input.faults + link.output.faults) (2 ^ 64 - 1)

-- A read of a link is one of its input, into a room of at most a chunk.
abbrev pub link_got_of : LinkState → ℕ → Got
link_got_of link room = got_of link.input (min room link.chunk)

-- what a read of a link leaves
abbrev pub after_link_read : LinkState → Got → LinkState
after_link_read link got = record link {
  input = after_read link.input got;
  last_was_read = if has_got_failed got then true else link.last_was_read;
}

-- A write to a link is one to its output.
abbrev pub link_put_of : LinkState → List ℕ → Put
link_put_of link piece = put_of link.output piece

-- what a write to a link leaves
abbrev pub after_link_write : LinkState → List ℕ → Put → LinkState
after_link_write link piece put = record link {
  output = after_write link.output piece put;
  last_was_read = if has_put_failed put then false else link.last_was_read;
}

-- Nothing of the link was read or written, and it has not failed.
abbrev pub IsUntouched : LinkState → Type 0
IsUntouched link = ((traffic_of link).was_read ≡ []) × ((traffic_of link).written ≡ []) × (faults_of link ≡ 0)

-- A door in memory: the links to come; the numbers of the calls of `next` that fail, the number of the next one, and how
-- many have failed; whether a link is out; the links that were taken back, and how many of them had failed.
pub record DoorState : Type 0 where
  pub to_come : List LinkState
  pub bad_nexts : List ℕ
  pub calls : ℕ
  pub faults : ℕ
  pub is_out : Bool
  pub taken : List LinkState
  pub broken : ℕ

-- a link that was taken back, as a door tells it
abbrev pub taken_of : LinkState → Taken
taken_of link = record { traffic = traffic_of link; faults = faults_of link }

-- what a door in memory tells
abbrev pub doorway_of : DoorState → Doorway
doorway_of door = record { to_come = map (λ link. link.input.stream.left) door.to_come; taken = map taken_of door.taken }

-- the first link, or the end where there is none
abbrev pub first_link : List LinkState → Came LinkState
first_link [] = End
first_link (link ∷ links) = Link link

-- A call of `next` fails exactly where its number is listed. Else it gives the first link to come, or the end where none
-- is.
abbrev pub came_of : DoorState → Came LinkState
came_of door = if is_listed door.bad_nexts door.calls then Failed else (first_link door.to_come)

-- what a call of `next` leaves
abbrev pub after_next : DoorState → Came LinkState → DoorState
after_next door (Link link) = record door { to_come = drop 1 door.to_come; calls = one_more door.calls; is_out = true }
after_next door End = record door { calls = one_more door.calls }
after_next door Failed = record door { calls = one_more door.calls; faults = one_more door.faults }

-- what taking a link back leaves: it is the last of those taken back, and where it had failed the door counts it
abbrev pub after_done : DoorState → LinkState → DoorState
after_done door link = record door {
  is_out = false;
  taken = door.taken ++ link ∷ [];
  broken = if faults_of link == 0 then door.broken else one_more door.broken;
}
