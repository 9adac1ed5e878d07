use Rattle.std.proofs.Common.{◌≡◌, ◌<◌, ◌^◌, Option, Some, None, MatchOption, ℕ, All, true, ap, subst}
use Rattle.hsm_io.specs.Sides.{DoorOpened, DoorRefused}
use Rattle.hsm_io.specs.MemoryLinks.{DoorState, doorway_of}
use Rattle.hsm_io.specs.MemoryBench.{DoorsState, BenchState, IsNewDoor, ports_differ, door_side, door_of, after_door}
use Rattle.hsm_io.proofs.DoorLemmas.{door_opened, door_refused}
use Rattle.hsm_io.proofs.mem_bench.MemBenchBench.door.Goals as goal

by : (bench after : DoorsState) (port : ℕ) (o : Option DoorState) → bench.faults < 2 ^ 64 → ports_differ bench.doors ≡ true
    → All (λ d. IsNewDoor d.1) bench.doors → o ≡ door_of bench port → after ≡ after_door bench port o
    → MatchOption o (DoorRefused (door_side bench) (door_side after) port)
    (λ door. DoorOpened (door_side bench) (door_side after) port (Some (doorway_of door)) door.is_out door.faults door.broken)
by bench after port None small differ new answer is = rw is (door_refused bench port small)
by bench after port (Some door) small differ new answer is = rw is (door_opened bench port door differ new answer)

pub returns-clause-doors : goal.returns-clause-doors
returns-clause-doors c =
    let same = ap (λ (b : BenchState). b.doors) c.self.view_is in
    let Done : DoorsState → Type 0 = λ b. MatchOption c.give.result (DoorRefused (door_side b) (door_side c.give.new.self) c.args.port)
    (λ door. DoorOpened (door_side b) (door_side c.give.new.self) c.args.port (Some (doorway_of door)) door.is_out door.faults door.broken) in
    subst Done same (by c.self.inside.doors c.give.new.self c.args.port c.give.result c.give.ensures.small c.give.ensures.ports c.give.ensures.new_doors c.give.ensures.answer c.give.ensures.after)
