use Rattle.std.proofs.Common.{rules}
use Rattle.hsm_desk.proofs.Moves.{draws_at}
use Rattle.hsm_desk.proofs.desk.Desk.draw.Goals as goal

pub fetch_add-ticket-requires : goal.fetch_add-ticket-requires
fetch_add-ticket-requires g c = (search rules, search rules, draws_at c.self.inside.board.shared.table_id.slots c.args.seat.now.id c.args.seat.now.me c.self.invariant.1 c.requires.idle.0 c.requires.idle.1 c.requires.idle.2)
