use Rattle.std.proofs.Common.{sym, ap, ◌∙◌}
use Rattle.hsm_config.specs.Rules.{is_known}
use Rattle.hsm_config.proofs.KeyLaws.{all_known, known_keys_are, one_unknown}
use Rattle.hsm_config.proofs.keys.has_known_keys.Goals as goal

pub returns-then-not-is_known : goal.returns-then-not-is_known
returns-then-not-is_known c =
    let unknown = ap is_known (sym c.as_str.ensures.value) ∙ sym c.is_known.ensures ∙ c.if-not-is_known.true in
    sym (one_unknown c.in-Some.key.now c.loop-key.key-iterator c.next.new.self c.in-Some.ensures.steps unknown)
    ∙ c.loop-key.invariant.2
    ∙ known_keys_are c.args.table.now.entries

pub returns : goal.returns
returns c = sym (ap all_known c.in-None.ensures.steps.0) ∙ c.loop-key.invariant.2 ∙ known_keys_are c.args.table.now.entries
