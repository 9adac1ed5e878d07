use Rattle.std.proofs.Common.{sym, ap, Some, map, ◌∙◌}
use Rattle.toml.specs.View.{table_view, view}
use Rattle.hsm_config.proofs.TestSet.{is_listed_set, is_test_set}
use Rattle.hsm_config.proofs.pairs.pairs_of.Goals as goal

pub returns-then-is_test : goal.returns-then-is_test
returns-then-is_test c = ap Some c.test_pairs.ensures ∙ is_test_set (table_view c.args.table.now) (sym c.is_test.ensures ∙ c.if-is_test.true)

pub returns : goal.returns
returns c =
    is_listed_set (table_view c.args.table.now) (map view c.elements_at.result.now) c.all_hex_bytes.result (sym c.is_test.ensures ∙ c.if-is_test.false)
    c.elements_at.ensures c.all_hex_bytes.ensures
