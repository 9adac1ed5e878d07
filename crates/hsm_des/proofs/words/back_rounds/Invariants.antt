use Rattle.std.proofs.Common.{◌≡◌, ◌-◌, take, map, reverse}
use Rattle.hsm_des.specs.Words.{IsWide, half_of, round_key}
use Rattle.hsm_des.specs.Des.{after_rounds}
use Rattle.hsm_des.proofs.words.back_rounds.Given as goal

abbrev pub invariant-loop-i : goal.invariant-loop-i
invariant-loop-i l = record {
  left : IsWide l.left;
  right : IsWide l.right;
  so_far : after_rounds (map round_key (reverse (take (16 - l.i) l.keys))) (record { left = half_of l.left; right = half_of l.right })
      ≡ after_rounds (map round_key (reverse l.keys)) (record { left = half_of l.fn.left; right = half_of l.fn.right });
}
