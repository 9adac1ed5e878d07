use Rattle.std.proofs.Common.{◌≡◌, ◌-◌, arith}
use Rattle.hsm_des.proofs.RoundsBeside.{ahead_start, ahead_round, ahead_end, both_wide}
use Rattle.hsm_des.proofs.beside.two_ahead.Goals as goal

pub loop-i-init : goal.loop-i-init
loop-i-init c = record {
  first = ahead_start c.args.first_keys.now c.args.first c.requires.first;
  second = ahead_start c.args.second_keys.now c.args.second c.requires.second;
}

pub loop-i-preserved : goal.loop-i-preserved
loop-i-preserved c = record {
  first = ahead_round c.args.first_keys.now c.loop-i.i c.args.first c.loop-i.first c.round-first.result (omega arith) c.loop-i.invariant.first c.round-first.ensures.halves c.round-first.ensures.wide;
  second = ahead_round c.args.second_keys.now c.loop-i.i c.args.second c.loop-i.second c.round-second.result (omega arith) c.loop-i.invariant.second c.round-second.ensures.halves c.round-second.ensures.wide;
}

pub returns : goal.returns
returns c =
    let done : 16 - c.loop-i.i ≡ 0 = omega arith in
    record {
      first = ahead_end c.args.first_keys.now c.loop-i.i c.args.first c.loop-i.first (omega arith) done c.loop-i.invariant.first;
      second = ahead_end c.args.second_keys.now c.loop-i.i c.args.second c.loop-i.second (omega arith) done c.loop-i.invariant.second;
      first_wide = both_wide c.loop-i.first c.loop-i.invariant.first.wide;
      second_wide = both_wide c.loop-i.second c.loop-i.invariant.second.wide;
    }
