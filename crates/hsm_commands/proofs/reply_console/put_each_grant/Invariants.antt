use Rattle.std.proofs.Common.{◌≡◌, ◌+◌, ◌*◌, ◌≤◌, ◌++◌, length, drop, map}
use Rattle.hsm_answers.specs.Values.{grant_text, spaced}
use Rattle.hsm_commands.proofs.reply_console.put_each_grant.Given as goal

pub record Invariant (l : goal.Live-loop-grant) : Type 0 where
  pub text : l.reply ++ spaced (map grant_text (drop l.grant-index l.grants)) ≡ l.initial.reply ++ spaced (map grant_text l.grants)
  pub grown : length l.reply ≤ length l.initial.reply + 80 * l.grant-index

abbrev pub invariant-loop-grant : goal.invariant-loop-grant
invariant-loop-grant l = Invariant l
