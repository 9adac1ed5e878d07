use Rattle.std.proofs.Common.{◌≡◌}
use Rattle.std.specs.Map.{keys_of}
use Rattle.hsm_config.proofs.KeyLaws.{all_known}
use Rattle.hsm_config.proofs.keys.has_known_keys.Given as goal

abbrev pub invariant-loop-key : goal.invariant-loop-key
invariant-loop-key l =
    (goal.iterator-loop-key).can_next l.key-iterator
    × (goal.iterator-loop-key).is_finite l.key-iterator
    × (all_known l.key-iterator ≡ all_known (keys_of l.table.entries))
