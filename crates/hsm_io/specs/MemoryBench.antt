-- A bench in memory: what it holds beside its files, and what each call answers and leaves.
use Rattle.std.specs.Prelude.{◌≡◌, ℕ, ◌==◌, List, [], ◌∷◌, ◌++◌, find, Bool, true, false, ◌&&◌, not, if◌then◌else◌, Option, Some, None, option_map, bytes_eq}
use Rattle.std.specs.List.{list_any}
use Rattle.hsm_io.specs.Sides.{SeedSide, DoorSide}
use Rattle.hsm_io.specs.MemoryForms.{one_more, is_listed, NamedFile, FilesState}
use Rattle.hsm_io.specs.MemoryLinks.{DoorState, doorway_of}

-- the names of the files differ
abbrev pub names_differ : List NamedFile → Bool
names_differ [] = true
names_differ (file ∷ files) = not (list_any (λ other. bytes_eq other.name file.name) files) && names_differ files

-- The seed of a bench in memory: the seed that it gives; the numbers of the calls for a seed that fail, the number of the
-- next one, and how many have failed; how many seeds were given, and the last of them, empty before the first.
pub record SeedState : Type 0 where
  pub seed : List ℕ
  pub bad_seeds : List ℕ
  pub calls : ℕ
  pub faults : ℕ
  pub given : ℕ
  pub last_seed : List ℕ

-- what it tells of its seeds
abbrev pub seed_side : SeedState → SeedSide
seed_side bench = record { faults = bench.faults; given = bench.given; last_seed = bench.last_seed }

-- A call for a seed gives none exactly where its number is listed.
abbrev pub seed_of : SeedState → Option (List ℕ)
seed_of bench = if is_listed bench.bad_seeds bench.calls then None else (Some bench.seed)

-- what a call for a seed leaves
abbrev pub after_seed : SeedState → Option (List ℕ) → SeedState
after_seed bench None = record bench { calls = one_more bench.calls; faults = one_more bench.faults }
after_seed bench (Some seed) = record bench { calls = one_more bench.calls; given = one_more bench.given; last_seed = seed }

-- the ports of the doors differ
abbrev pub ports_differ : List (ℕ × DoorState) → Bool
ports_differ [] = true
ports_differ (door ∷ doors) = not (list_any (λ other. other.0 == door.0) doors) && ports_differ doors

-- Of the door no link is out and none was taken back, and `next` was not called.
pub record IsNewDoor (door : DoorState) : Type 0 where
  pub none_out : door.is_out ≡ false
  pub none_taken : door.taken ≡ []
  pub no_call : door.calls ≡ 0
  pub no_fault : door.faults ≡ 0
  pub none_broken : door.broken ≡ 0

-- The doors of a bench in memory, each with its port, of which those that were given are gone; the numbers of the calls
-- for a door that fail, the number of the next one, and how many have failed; the port of the last call that failed, 0
-- before the first; and the ports that were asked, in order.
pub record DoorsState : Type 0 where
  pub doors : List (ℕ × DoorState)
  pub bad_doors : List ℕ
  pub calls : ℕ
  pub faults : ℕ
  pub bad_port : ℕ
  pub asked : List ℕ

-- the door of a port
abbrev pub door_at : List (ℕ × DoorState) → ℕ → Option DoorState
door_at doors port = option_map (λ door. door.1) (find (λ door. door.0 == port) doors)

-- the doors without that of a port
abbrev pub without : ℕ → List (ℕ × DoorState) → List (ℕ × DoorState)
without port [] = []
without port (door ∷ doors) = if door.0 == port then doors else (door ∷ without port doors)

-- what it tells of its doors: at each port the links to come of the door there
abbrev pub door_side : DoorsState → DoorSide
door_side bench = record {
  connections = λ port. option_map (λ door. (doorway_of door).to_come) (door_at bench.doors port);
  faults = bench.faults;
  bad_port = bench.bad_port;
  asked = bench.asked;
}

-- A call for a door gives none exactly where its number is listed or no door has the port. Else it gives that door.
abbrev pub door_of : DoorsState → ℕ → Option DoorState
door_of bench port = if is_listed bench.bad_doors bench.calls then None else (door_at bench.doors port)

-- what a call for a door leaves
abbrev pub after_door : DoorsState → ℕ → Option DoorState → DoorsState
after_door bench port None = record bench {
  calls = one_more bench.calls;
  faults = one_more bench.faults;
  bad_port = port;
  asked = bench.asked ++ port ∷ [];
}
after_door bench port (Some door) = record bench {
  doors = without port bench.doors;
  calls = one_more bench.calls;
  asked = bench.asked ++ port ∷ [];
}

-- A bench in memory: its files, its seed, its doors, the moments to come of each clock that it gives, and the lanes for
-- which it was asked gates.
pub record BenchState : Type 0 where
  pub files : FilesState
  pub seeds : SeedState
  pub doors : DoorsState
  pub moments : List ℕ
  pub gates : List ℕ
