use Rattle.std.proofs.Common.{◌≡◌, ◌+◌, ◌*◌, ◌++◌, length, drop}
use Rattle.hsm_tdes.specs.Tdes.{IsKey}
use Rattle.hsm_commands.proofs.ListSteps.{clear_text}
use Rattle.hsm_commands.proofs.reply_console.put_clear.Given as goal

pub record Invariant (l : goal.Live-loop-i) : Type 0 where
  pub text : l.reply ++ clear_text (drop l.i l.key) ≡ l.initial.reply ++ clear_text l.key
  pub grown : length l.reply ≡ length l.initial.reply + 16 * l.i
  pub key : IsKey l.key

abbrev pub invariant-loop-i : goal.invariant-loop-i
invariant-loop-i l = Invariant l
