use Rattle.std.proofs.Common.{◌∙◌, ap}
use Rattle.hsm_types.specs.Pins.{is_pin}
use Rattle.hsm_answers.proofs.DrawSteps.{digits_pin}
use Rattle.hsm_answers.proofs.draws.draw_pin.Goals as goal

pub unreachable-requires : goal.unreachable-requires
unreachable-requires c =
    let good = ap is_pin c.digits_from.ensures ∙ digits_pin c.args.module.now c.args.place c.args.count c.requires.least c.requires.most in
    let found = c.of.ensures in
    let none = c.in-None.is in
    let same = rw good at found in
    cc
