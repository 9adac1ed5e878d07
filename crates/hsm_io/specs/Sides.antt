-- What a bench keeps of its seeds and its doors.
use Rattle.std.specs.Prelude.{◌≡◌, ◌≢◌, ◌≤◌, ◌+◌, ◌-◌, ◌^◌, ◌⊎◌, min, ℕ, List, [], ◌∷◌, ◌++◌, All, Bool, false, Option, Some, None}
use Rattle.hsm_io.specs.Outside.{Rose}
use Rattle.hsm_io.specs.Connections.{Doorway}

-- How often asking for a seed has failed, how many seeds were given, and the one that was given last.
pub record SeedSide : Type 0 where
  pub faults : ℕ
  pub given : ℕ
  pub last_seed : List ℕ

-- What asking for a seed leaves where it gives one: one more was given, up to the last value of that count.
pub record Seeded (before after : SeedSide) (seed : List ℕ) : Type 0 where
  pub count : after.faults ≡ before.faults
  pub given : after.given ≡ min (before.given + 1) (2 ^ 64 - 1)
  pub last : after.last_seed ≡ seed

-- What asking for a seed leaves where it gives none: the count rose.
pub record NotSeeded (before after : SeedSide) : Type 0 where
  pub rose : Rose before.faults after.faults
  pub later : before.faults ≤ after.faults
  pub given : after.given ≡ before.given
  pub last : after.last_seed ≡ before.last_seed

-- The connections to come at each port, where told, each by the bytes that it will give; how often asking for a door has
-- failed, and the port of the last such call; the ports that were asked, in order.
pub record DoorSide : Type 0 where
  pub connections : ℕ → Option (List (List ℕ))
  pub faults : ℕ
  pub bad_port : ℕ
  pub asked : List ℕ

-- the port was not asked
abbrev pub IsNotAmong : ℕ → List ℕ → Type 0
IsNotAmong port asked = All (λ other. other ≢ port) asked

-- What asking for the door of a port leaves where it gives one. Just the connections to come at the port are those to
-- come at the door, and they are no longer the bench's. None of the door is out or was taken back, and nothing of it has
-- failed. Those at each other port stay.
pub record DoorOpened (before after : DoorSide) (port : ℕ) (doorway : Option Doorway) (is_out : Bool) (door_faults broken : ℕ) : Type 0 where
  pub comes : (c : List (List ℕ)) → before.connections port ≡ Some c → doorway ≡ Some (record { to_come = c; taken = [] })
  pub none_taken : (d : Doorway) → doorway ≡ Some d → d.taken ≡ []
  pub moved : after.connections port ≡ None
  pub others : (other : ℕ) → (after.connections other ≡ before.connections other) ⊎ (other ≡ port)
  pub none_out : is_out ≡ false
  pub no_fault : door_faults ≡ 0
  pub none_broken : broken ≡ 0
  pub count : after.faults ≡ before.faults
  pub bad : after.bad_port ≡ before.bad_port
  pub asks : after.asked ≡ before.asked ++ port ∷ []

-- What asking for the door of a port leaves where it gives none: the count rose, and the port is the bad one.
pub record DoorRefused (before after : DoorSide) (port : ℕ) : Type 0 where
  pub connections : (other : ℕ) → after.connections other ≡ before.connections other
  pub rose : Rose before.faults after.faults
  pub later : before.faults ≤ after.faults
  pub bad : after.bad_port ≡ port
  pub asks : after.asked ≡ before.asked ++ port ∷ []
