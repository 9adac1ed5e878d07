use Rattle.std.proofs.Common.{◌≡◌, ◌-◌, arith}
use Rattle.hsm_des.proofs.RoundsBeside.{back_start, back_round, back_end, both_wide}
use Rattle.hsm_des.proofs.beside.two_back.Goals as goal

pub loop-i-init : goal.loop-i-init
loop-i-init c = record {
  first = back_start c.args.first_keys.now c.args.first (omega arith) c.requires.first;
  second = back_start c.args.second_keys.now c.args.second (omega arith) c.requires.second;
}

pub loop-i-preserved : goal.loop-i-preserved
loop-i-preserved c = record {
  first = back_round c.args.first_keys.now c.loop-i.i c.args.first c.loop-i.first c.round-first.result (omega arith) (omega arith) c.loop-i.invariant.first c.round-first.ensures.halves c.round-first.ensures.wide;
  second = back_round c.args.second_keys.now c.loop-i.i c.args.second c.loop-i.second c.round-second.result (omega arith) (omega arith) c.loop-i.invariant.second c.round-second.ensures.halves c.round-second.ensures.wide;
}

pub returns : goal.returns
returns c =
    let done : 16 - c.loop-i.i ≡ 0 = omega arith in
    record {
      first = back_end c.args.first_keys.now c.loop-i.i c.args.first c.loop-i.first done c.loop-i.invariant.first;
      second = back_end c.args.second_keys.now c.loop-i.i c.args.second c.loop-i.second done c.loop-i.invariant.second;
      first_wide = both_wide c.loop-i.first c.loop-i.invariant.first.wide;
      second_wide = both_wide c.loop-i.second c.loop-i.invariant.second.wide;
    }
