use Rattle.std.proofs.Common.{◌≡◌, ◌+◌, ◌≤◌, ◌++◌, length, drop}
use Rattle.hsm_answers.specs.Values.{xor_bytes}
use Rattle.hsm_commands.proofs.components.exclusive_or.Given as goal

pub record Invariant (l : goal.Live-loop-x) : Type 0 where
  pub bytes : l.out.items ++ xor_bytes (drop l.x-index l.xs) l.rest ≡ xor_bytes l.xs l.ys
  pub size : length l.out.items ≡ l.x-index
  pub left : l.x-index + length l.rest ≤ length l.xs

abbrev pub invariant-loop-x : goal.invariant-loop-x
invariant-loop-x l = Invariant l
