use Rattle.std.proofs.Common.{◌≡◌, ◌++◌, map}
use Rattle.std.specs.List.{filter}
use Rattle.hsm_rows.specs.declared.row.Code.{Code}
use Rattle.hsm_rows.specs.Table.{shape_of}
use Rattle.hsm_rows.specs.Codes.{codes_from, names}
use Rattle.hsm_rows.proofs.error_codes.codes.Given as goal

abbrev pub invariant-loop-code : goal.invariant-loop-code
invariant-loop-code l = map (λ (c : Code). c.0) l.codes.items ++ filter (names (shape_of l.row)) (codes_from l.code) ≡ filter (names (shape_of l.row)) (codes_from 0)
