use Rattle.std.proofs.Common.{arith}
use Rattle.std.proofs.lemmas.Grind.{common_steps}
use Rattle.hsm_session.specs.Booking.{lane_words}
use Rattle.hsm_session.proofs.lane.Buffers.begin_lane_line.Goals as goal

pub returns-clause-line : goal.returns-clause-line
unfolding lane_words
returns-clause-line c = grind (arith, common_steps)
