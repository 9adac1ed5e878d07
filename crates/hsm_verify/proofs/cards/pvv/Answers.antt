use Rattle.hsm_verify.proofs.ValueLaws.{pvv_digits-below, pin_decimal}
use Rattle.std.proofs.Common.{◌∙◌, ap}
use Rattle.std.specs.List.{list_all}
use Rattle.hsm_types.specs.Pins.{is_decimal}
use Rattle.hsm_verify.proofs.ValueBounds.{take_decimal}
use Rattle.hsm_verify.proofs.cards.pvv.Goals as goal

pub block_of-requires : goal.block_of-requires
block_of-requires c =
    rw (c.pvv_digits-digits.ensures, c.digits.ensures.digits)
    (pvv_digits-below c.args.account.now c.args.pin.now c.args.index c.requires.account c.requires.index (pin_decimal c.args.pin.now c.digits.ensures.pin))

pub returns-clause-decimal : goal.returns-clause-decimal
returns-clause-decimal c = ap (list_all is_decimal) c.copy_from_slice.ensures.after ∙ take_decimal 4 c.select_all-all.result c.select_all-all.ensures.decimal
