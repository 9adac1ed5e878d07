use Rattle.hsm_verify.proofs.ValueLaws.{cvv_written}
use Rattle.hsm_verify.proofs.cards.cvv_digits.Goals as goal

pub returns : goal.returns
returns c =
    cvv_written c.args.pan.now c.args.expiry.now c.args.service.now c.copy_from_slice.new.self c.copy_from_slice-2.new.self c.copy_from_slice-3.new.self
    c.requires c.told-expiry c.told-service c.copy_from_slice.ensures.after c.copy_from_slice-2.ensures.after c.copy_from_slice-3.ensures.after
