use Rattle.std.proofs.Common.{All, subst, sym}
use Rattle.hsm_io.specs.MemoryBench.{DoorsState, IsNewDoor}
use Rattle.hsm_io.proofs.DoorLemmas.{takes, takes_none}
use Rattle.hsm_io.proofs.mem_doors.MemDoors.give.Goals as goal

pub invariant_of-self : goal.invariant_of-self
invariant_of-self c =
    let all = takes c.args.self.now _ _ _ _ _ _ c.self.view_is c.self.invariant.0 c.self.invariant.1 c.args.port c.in-Some.place _ c.remove-door.result _ _
    (sym c.in-Some.ensures) c.remove-door.ensures.value c.remove-door.ensures.by_index.2 c.saturating_add-self-inside.ensures c.push.ensures.items in
    all.0

pub returns-in-Some-clause-new_doors : goal.returns-in-Some-clause-new_doors
returns-in-Some-clause-new_doors c = subst (λ (b : DoorsState). All (λ d. IsNewDoor d.1) b.doors) c.self.view_is c.self.invariant.1

pub returns-in-Some-clause-answer : goal.returns-in-Some-clause-answer
returns-in-Some-clause-answer c =
    let all = takes c.args.self.now _ _ _ _ _ _ c.self.view_is c.self.invariant.0 c.self.invariant.1 c.args.port c.in-Some.place _ c.remove-door.result _ _
    (sym c.in-Some.ensures) c.remove-door.ensures.value c.remove-door.ensures.by_index.2 c.saturating_add-self-inside.ensures c.push.ensures.items in
    all.1

pub returns-in-Some-clause-after : goal.returns-in-Some-clause-after
returns-in-Some-clause-after c =
    let all = takes c.args.self.now _ _ _ _ _ _ c.self.view_is c.self.invariant.0 c.self.invariant.1 c.args.port c.in-Some.place _ c.remove-door.result _ _
    (sym c.in-Some.ensures) c.remove-door.ensures.value c.remove-door.ensures.by_index.2 c.saturating_add-self-inside.ensures c.push.ensures.items in
    all.2

pub returns-in-None-clause-answer : goal.returns-in-None-clause-answer
returns-in-None-clause-answer c = takes_none c.args.self.now c.args.port (sym c.in-None.ensures)
