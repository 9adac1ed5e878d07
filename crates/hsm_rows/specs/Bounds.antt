-- How much a row has.
use Rattle.std.specs.Prelude.{Bool, ◌+◌, nat_le, length}
use Rattle.hsm_rows.specs.Table.{RowShape, rules_of}

-- at most 12 fields
abbrev pub has_few_fields : RowShape → Bool
has_few_fields row = nat_le (length row.fields) 12

-- at most two needs, those of its permits included
abbrev pub has_few_needs : RowShape → Bool
has_few_needs row = nat_le (length (rules_of row).acts + length (rules_of row).needs) 2
