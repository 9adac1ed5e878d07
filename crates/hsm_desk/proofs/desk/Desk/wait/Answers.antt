use Rattle.std.proofs.Common.{rules, ap, ◌∙◌}
use Rattle.hsm_desk.specs.Rule.{Seated}
use Rattle.hsm_desk.proofs.Moves.{awaits_at}
use Rattle.hsm_desk.proofs.desk.Desk.wait.Goals as goal

pub load-requires : goal.load-requires
load-requires g c = (search rules, search rules, awaits_at c.self.inside.board.shared.table_id.slots c.loop.seat.id c.args.ticket c.loop.seat.me c.self.invariant.1 (ap (λ (m : Seated). m.0.stage) c.loop.invariant.0 ∙ c.requires.waiting.0) (ap (λ (m : Seated). m.1) c.loop.invariant.0 ∙ c.requires.waiting.1))
