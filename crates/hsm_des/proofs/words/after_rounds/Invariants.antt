use Rattle.std.proofs.Common.{◌≡◌, drop, map}
use Rattle.hsm_des.specs.Words.{IsWide, half_of, round_key}
use Rattle.hsm_des.specs.Des.{after_rounds}
use Rattle.hsm_des.proofs.words.after_rounds.Given as goal

abbrev pub invariant-loop-key : goal.invariant-loop-key
invariant-loop-key l = record {
  left : IsWide l.left;
  right : IsWide l.right;
  so_far : after_rounds (map round_key (drop l.key-index l.keys)) (record { left = half_of l.left; right = half_of l.right })
      ≡ after_rounds (map round_key l.keys) (record { left = half_of l.fn.left; right = half_of l.fn.right });
}
