use Rattle.std.proofs.Common.{◌≡◌, ◌<◌, ℕ, [], length, get_or}
use Rattle.hsm_lmk.specs.Sealing.{pair_key}
use Rattle.hsm_lmk.specs.Pairs.{AllOdd}
use Rattle.hsm_lmk.proofs.LmkSet.of.Given as goal

pub record Invariant (l : goal.Live-loop-k) : Type 0 where
  pub size : length l.keys ≡ 20
  pub same : (j : ℕ) → j < l.k → get_or l.keys j [] ≡ pair_key (get_or l.pairs j [])
  pub odd : (j : ℕ) → j < l.k → AllOdd (pair_key (get_or l.pairs j []))

abbrev pub invariant-loop-k : goal.invariant-loop-k
invariant-loop-k l = Invariant l
