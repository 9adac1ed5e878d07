use Rattle.std.proofs.Common.{arith}
use Rattle.std.proofs.lemmas.Grind.{common_steps}
use Rattle.hsm_rows.specs.Table.{shape_of}
use Rattle.hsm_rows.proofs.RowLemmas.{host_row_short}
use Rattle.hsm_rows.proofs.listing.explain.Goals as goal

pub put_codes-requires : goal.put_codes-requires
put_codes-requires c = let s = host_row_short (shape_of c.args.row.now) c.requires.host in grind (arith, common_steps, s.text)

pub put_fields-requires : goal.put_fields-requires
put_fields-requires c = let s = host_row_short (shape_of c.args.row.now) c.requires.host in grind (arith, common_steps, s.text)

pub put_clear-requires-clause-few : goal.put_clear-requires-clause-few
put_clear-requires-clause-few c = let s = host_row_short (shape_of c.args.row.now) c.requires.host in grind (arith, common_steps, s.terms)

pub put_clear-requires-clause-room : goal.put_clear-requires-clause-room
put_clear-requires-clause-room c = let s = host_row_short (shape_of c.args.row.now) c.requires.host in grind (arith, common_steps, s.text)
