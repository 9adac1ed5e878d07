use Rattle.std.proofs.Common.{arith, length-append}
use Rattle.hsm_make.proofs.Lengths.{length-hex_of_bytes}
use Rattle.hsm_make.proofs.messages.put_piece.Goals as goal

pub put-requires-2 : goal.put-requires-2
put-requires-2 c = grind (arith, length-append, length-hex_of_bytes)

pub returns-clause-length : goal.returns-clause-length
returns-clause-length c = grind (arith, length-append, length-hex_of_bytes)
