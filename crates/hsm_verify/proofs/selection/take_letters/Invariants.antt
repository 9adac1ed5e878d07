use Rattle.hsm_verify.proofs.ValueLaws.{Holds, selected_to}
use Rattle.hsm_verify.proofs.selection.take_letters.Given as goal

abbrev pub invariant-loop-i : goal.invariant-loop-i
invariant-loop-i l = Holds (selected_to l.nibbles l.i) l.out l.count
