use Rattle.std.proofs.Common.{arith}
use Rattle.std.proofs.lemmas.Grind.{common_steps}
use Rattle.hsm_rows.specs.Rules.{rules_shape}
use Rattle.hsm_rows.proofs.CodeLemmas.{among_checks}
use Rattle.hsm_rows.proofs.error_codes.has_check.Goals as goal

pub returns-then-values : goal.returns-then-values
returns-then-values c = rw (among_checks c.args.code (rules_shape c.args.rules.now)) (grind (arith, common_steps))

pub returns-else-values : goal.returns-else-values
returns-else-values c = rw (among_checks c.args.code (rules_shape c.args.rules.now)) (grind (arith, common_steps))
