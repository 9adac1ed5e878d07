use Rattle.std.proofs.Common.{◌∙◌, List, ℕ, ap}
use Rattle.std.specs.Prelude.{if◌then◌else◌, Some, None}
use Rattle.hsm_types.specs.Pins.{is_pin}
use Rattle.hsm_commands.proofs.ClearSteps.{too_few}
use Rattle.hsm_commands.proofs.clear_pins.clear_pin.Goals as goal

pub returns-in-None-clause-fault : goal.returns-in-None-clause-fault
returns-in-None-clause-fault c =
    too_few c.args.text.now c.of.result c.requires
    (c.of.ensures ∙ ap (λ (ds : List ℕ). if is_pin ds then Some ds else None) (c.as_slice.ensures.value ∙ c.clear_digits.ensures))
    c.in-None.is
