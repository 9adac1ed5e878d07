use Rattle.std.proofs.Common.{◌≡◌, true, false, sym, ap, ◌∙◌}
use Rattle.hsm_rows.specs.Table.{RowShape}
use Rattle.hsm_commands.specs.Plans.{echoes}
use Rattle.test_commands.specs.Row.{row_ZW}
use Rattle.test_commands.proofs.zw.finish.Goals as goal

pub finish-requires-clause-whole : goal.finish-requires-clause-whole
unfolding row_ZW
finish-requires-clause-whole c = λ echo.
    let z : false ≡ true = sym (ap (λ (row : RowShape). echoes row.terms) c.requires.row) ∙ echo in
    absurd (cc)
