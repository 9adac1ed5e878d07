use Rattle.std.proofs.Common.{◌∙◌, sym, if◌then◌else◌}
use Rattle.hsm_server.specs.Lanes.{lane_view}
use Rattle.hsm_program.specs.Serving.{has_cut, has_failed}
use Rattle.hsm_program.proofs.Printing.{any_map}
use Rattle.hsm_program.proofs.ends.status_of.Goals as goal

pub returns : goal.returns
returns g c =
    let view = lane_view g.D.Door.doorway g.D.Door.faults g.D.Door.broken in
    let failed = c.any_failed-failed.ensures ∙ sym (any_map view has_failed c.args.ends.now) in
    let cut = c.any_cut-cut.ensures ∙ sym (any_map view has_cut c.args.ends.now) in
    c.status_for.ensures ∙ (λ i. if failed i then 7 else if cut i then 6 else 0)
