use Rattle.std.proofs.Common.{◌∙◌, ap, length, arith}
use Rattle.std.proofs.lemmas.List.Elements.{All-drop}
use Rattle.hsm_io.specs.MemoryLinks.{DoorState, IsUntouched}
use Rattle.hsm_io.proofs.LinkLemmas.{comes_first}
use Rattle.hsm_io.proofs.mem_door.MemDoorDoor.next.Goals as goal

pub invariant_of-self-2 : goal.invariant_of-self-2
invariant_of-self-2 c =
    let none_out = ap (λ (d : DoorState). d.is_out) c.self.view_is ∙ c.requires in
    let room = rw none_out at c.self.invariant.1 in (
      rw c.in-Some.ensures.rest (All-drop IsUntouched 1 c.self.inside.to_come.items c.self.invariant.0),
      omega (arith, room, ap length c.in-Some.ensures.items),
    )

pub returns-clause-comes : goal.returns-clause-comes
returns-clause-comes c = rw (← c.self.view_is) (comes_first c.self.inside.to_come.items c.pop_front.new.self.items c.self.inside.taken.items c.in-Some.link c.in-Some.ensures.items c.self.invariant.0)
