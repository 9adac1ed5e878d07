use Rattle.std.proofs.Common.{◌≡◌, ◌*◌, ◌++◌, length, take, drop}
use Rattle.hsm_types.specs.Schemes.{scheme_parts}
use Rattle.hsm_lmk.specs.Opened.{sealed_from}
use Rattle.hsm_lmk.proofs.seal_parts.Given as goal

pub record Invariant (l : goal.Live-loop-i) : Type 0 where
  pub size : length l.out ≡ 8 * scheme_parts l.fn.scheme
  pub same : sealed_from l.wrapping l.fn.scheme 0 l.key ≡ take (8 * l.i) l.out ++ sealed_from l.wrapping l.fn.scheme l.i (drop l.i l.key)

abbrev pub invariant-loop-i : goal.invariant-loop-i
invariant-loop-i l = Invariant l
