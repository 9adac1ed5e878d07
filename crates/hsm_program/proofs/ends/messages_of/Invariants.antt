use Rattle.std.proofs.Common.{◌≡◌, take}
use Rattle.hsm_server.specs.Lanes.{message_count}
use Rattle.hsm_program.proofs.ends.messages_of.Given as goal

abbrev pub invariant-reports : goal.invariant-reports
invariant-reports l = l.count ≡ message_count (take l.report-index l.reports)
