use Rattle.std.proofs.Common.{◌≡◌, ◌++◌, drop}
use Rattle.std.specs.List.{flat_map}
use Rattle.hsm_rows.specs.Explain.{field_line}
use Rattle.hsm_rows.proofs.listing.put_fields.Given as goal

abbrev pub invariant-loop-field : goal.invariant-loop-field
invariant-loop-field l = l.out ++ flat_map field_line (drop l.field-index l.fields) ≡ l.initial.out ++ flat_map field_line l.fields
