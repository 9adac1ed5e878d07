use Rattle.std.proofs.Common.{◌≡◌, drop}
use Rattle.hsm_des.specs.Des.{after_rounds, halves}
use Rattle.hsm_des.proofs.plain.after_rounds.Given as goal

abbrev pub invariant-loop-key : goal.invariant-loop-key
invariant-loop-key l =
    after_rounds (drop l.key-index l.keys) (record { left = l.left; right = l.right }) ≡ after_rounds l.keys (halves l.x)
