use Rattle.std.proofs.Common.{◌≡◌, ◌++◌, ◌≤◌, length, drop}
use Rattle.hsm_commands.specs.Values.{clear_digits}
use Rattle.hsm_commands.proofs.clear_pins.clear_digits.Given as goal

pub record Invariant (l : goal.Live-loop-character) : Type 0 where
  pub same_digits : clear_digits l.text ≡ l.digits.items ++ clear_digits (drop l.character-index l.text)
  pub count : length l.digits.items ≡ l.character-index
  pub short : length l.text ≤ 12

abbrev pub invariant-loop-character : goal.invariant-loop-character
invariant-loop-character l = Invariant l
