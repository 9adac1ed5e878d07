use Rattle.std.proofs.Common.{sym, ap, ◌∙◌, subst, length}
use Rattle.hsm_desk.specs.Passes.{PassView, IsWhole}
use Rattle.hsm_desk.proofs.Moves.{whole_length, closes}
use Rattle.hsm_desk.proofs.desk.Desk.close.Goals as goal

pub returns-clause-whole : goal.returns-clause-whole
returns-clause-whole c all =
    let v = c.pass.inside.seat.me.0 in
    let end = closes c.pass.inside.seat.id v _ _ _ c.close_with-closed.ensures.values.2 c.word-served.ensures in
    let same = whole_length end.0 v end.1 (subst IsWhole (sym c.pass.view_is) all) in
    end.2 ∙ (same ∙ ap (λ (p : PassView). length p.seen) c.pass.view_is)
