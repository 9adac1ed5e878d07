use Rattle.std.proofs.Common.{◌≡◌, drop, map, length, []}
use Rattle.hsm_rows.specs.Forms.{shown}
use Rattle.hsm_rows.specs.Reading.{read_on}
use Rattle.hsm_rows.proofs.read.read_fields.Given as goal

pub record Invariant (l : goal.Live-loop-field) : Type 0 where
  pub same_reading : read_on l.console l.row.fields.now [] l.text ≡ read_on l.console (drop l.field-index l.row.fields.now) (map shown l.texts.items) l.rest
  pub filled : length l.texts.items ≡ l.field-index

abbrev pub invariant-loop-field : goal.invariant-loop-field
invariant-loop-field l = Invariant l
