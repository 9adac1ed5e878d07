use Rattle.hsm_des.proofs.RoundsBeside.{IsAhead}
use Rattle.hsm_des.proofs.beside.two_ahead.Given as goal

abbrev pub invariant-loop-i : goal.invariant-loop-i
invariant-loop-i l = record {
  first : IsAhead l.first_keys l.i l.fn.first l.first;
  second : IsAhead l.second_keys l.i l.fn.second l.second;
}
