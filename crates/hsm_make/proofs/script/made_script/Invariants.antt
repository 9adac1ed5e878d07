use Rattle.std.proofs.Common.{◌≡◌, ◌-◌, ◌++◌, flat_map}
use Rattle.hsm_make.specs.Numbers.{xs_after}
use Rattle.hsm_make.specs.Messages.{made_text, message_lines}
use Rattle.hsm_make.proofs.script.made_script.Given as goal

abbrev pub invariant-messages : goal.invariant-messages
invariant-messages l = l.script.items ++ flat_map message_lines (xs_after l.x (l.count - l.counter)) ≡ made_text l.count l.seed
