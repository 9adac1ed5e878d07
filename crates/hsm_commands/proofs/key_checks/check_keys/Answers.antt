use Rattle.std.proofs.Common.{◌∙◌}
use Rattle.hsm_commands.proofs.KeptLaws.{two_kept}
use Rattle.hsm_commands.proofs.key_checks.check_keys.Goals as goal

pub returns-in_ok-keys-in-len2-2-clause-cache : goal.returns-in_ok-keys-in-len2-2-clause-cache
returns-in_ok-keys-in-len2-2-clause-cache c =
    let one = c.in_ok-keys-in-len2.ensures.cache in
    let two = c.in_ok-keys-in-len2-2.ensures.cache in
    let second = rw one.capacity at two.kept in
    record {
      agrees = two.agrees;
      capacity = two.capacity ∙ one.capacity;
      kept = two_kept _ c.args.checks.now _ _ _ _ _ c.in-len2.len_at_least c.in-len2.len_below c.in_ok-keys-in-len2.ensures.fault c.in_ok-keys-in-len2-2.ensures.fault one.kept second;
    }
