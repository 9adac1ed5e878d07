use Rattle.hsm_des.proofs.RoundsBeside.{IsBack}
use Rattle.hsm_des.proofs.beside.two_back.Given as goal

abbrev pub invariant-loop-i : goal.invariant-loop-i
invariant-loop-i l = record {
  first : IsBack l.first_keys l.i l.fn.first l.first;
  second : IsBack l.second_keys l.i l.fn.second l.second;
}
