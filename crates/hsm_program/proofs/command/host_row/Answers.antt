use Rattle.std.proofs.Common.{sym}
use Rattle.hsm_program.proofs.RowLaws.{no_host_row}
use Rattle.hsm_program.proofs.command.host_row.Goals as goal

pub returns-in-Err-clause-row : goal.returns-in-Err-clause-row
returns-in-Err-clause-row c = sym (no_host_row c.args.word.now c.in-Err.ensures.1)
