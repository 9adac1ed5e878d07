use Rattle.std.proofs.Common.{rules}
use Rattle.hsm_desk.proofs.Bookings.{slot_there, has_from}
use Rattle.hsm_desk.proofs.desk.Desk.take.Goals as goal

pub exchange-requires : goal.exchange-requires
exchange-requires g c = (search rules, slot_there c.args.seat.now.me c.wait.new.seat.me c.wait.ensures.turn)

pub returns-clause-turn : goal.returns-clause-turn
returns-clause-turn g c = has_from c.args.ticket c.args.seat.now.me c.wait.new.seat.me c.exchange.new.seat.me c.exchange.result c.in-Some.held c.requires.waiting.0 c.wait.ensures.turn c.exchange.ensures.2 c.exchange.ensures.3 c.in-Some.is
