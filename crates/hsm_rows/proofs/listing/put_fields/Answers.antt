use Rattle.std.proofs.Common.{arith}
use Rattle.std.proofs.lemmas.Grind.{common_steps}
use Rattle.hsm_rows.proofs.RowLemmas.{field_room}
use Rattle.hsm_rows.proofs.listing.put_fields.Goals as goal

pub put_field-requires : goal.put_field-requires
put_field-requires c = grind (arith, common_steps, field_room)
