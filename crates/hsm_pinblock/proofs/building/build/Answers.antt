use Rattle.hsm_pinblock.proofs.BlockLaws.{field_below, field_block}
use Rattle.hsm_pinblock.proofs.building.build.Goals as goal

pub block_of-requires : goal.block_of-requires
block_of-requires c =
    rw (c.mixed.ensures, c.pin_field.ensures, c.digits.ensures.digits)
    (field_below c.args.format c.args.pin.now c.args.account.now c.args.fill.now c.digits.ensures.pin c.requires.account c.requires.fill)

pub returns-clause-block : goal.returns-clause-block
returns-clause-block c =
    rw (c.block_of.ensures, c.mixed.ensures, c.pin_field.ensures, c.digits.ensures.digits)
    (field_block c.args.format c.args.pin.now c.args.account.now c.args.fill.now c.digits.ensures.pin
    (record { long = c.told-account; decimal = c.requires.account }) c.told-fill c.requires.fill)

pub returns-clause-holds : goal.returns-clause-holds
returns-clause-holds c = record {
  digits = c.digits.ensures.pin;
  fill = c.args.fill.now;
  long = c.told-fill;
  permitted = c.requires.fill;
  made = returns-clause-block c;
}
