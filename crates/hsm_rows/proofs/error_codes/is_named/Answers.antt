use Rattle.std.proofs.Common.{arith}
use Rattle.std.proofs.lemmas.Grind.{common_steps}
use Rattle.hsm_rows.specs.Rules.{rules_shape}
use Rattle.hsm_rows.proofs.CodeLemmas.{among_named}
use Rattle.hsm_rows.proofs.error_codes.is_named.Goals as goal

pub returns-then-fields : goal.returns-then-fields
returns-then-fields c = rw (among_named c.args.code c.args.row.now (rules_shape c.rules.result.now) c.rules.ensures) (grind (arith, common_steps))

pub returns-else-fields : goal.returns-else-fields
returns-else-fields c = rw (among_named c.args.code c.args.row.now (rules_shape c.rules.result.now) c.rules.ensures) (grind (arith, common_steps))
