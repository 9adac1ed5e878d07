use Rattle.std.proofs.Common.{arith}
use Rattle.std.proofs.lemmas.Grind.{common_steps}
use Rattle.hsm_rows.proofs.RowLemmas.{clear_room}
use Rattle.hsm_rows.proofs.listing.put_clear.Goals as goal

pub put-requires : goal.put-requires
put-requires c = grind (arith, common_steps, clear_room)

pub put_number-requires : goal.put_number-requires
put_number-requires c = grind (arith, common_steps, clear_room)

pub put-requires-then-shows : goal.put-requires-then-shows
put-requires-then-shows c = grind (arith, common_steps, clear_room)
