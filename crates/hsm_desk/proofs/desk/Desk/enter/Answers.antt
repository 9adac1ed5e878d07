use Rattle.std.proofs.Common.{rules}
use Rattle.hsm_desk.proofs.Bookings.{enters_from, own_from}
use Rattle.hsm_desk.proofs.desk.Desk.enter.Goals as goal

pub fetch_add-requires : goal.fetch_add-requires
fetch_add-requires c = (search rules, search rules, enters_from c.self.inside.board.shared.table_id.slots c.exchange.new.seat.id c.args.ticket c.args.seat.now.me c.exchange.new.seat.me c.args.held c.self.invariant.1 c.requires.turn.0 c.requires.turn.1 c.exchange.ensures.3 c.requires.turn.2 c.requires.entry.0 c.requires.entry.1)

pub returns-clause-own : goal.returns-clause-own
returns-clause-own c = own_from c.args.seat.now.me c.exchange.new.seat.me c.args.held c.fetch_add.result c.fetch_add.new.seat.me c.requires.turn.1 c.exchange.ensures.3 c.fetch_add.ensures.2
