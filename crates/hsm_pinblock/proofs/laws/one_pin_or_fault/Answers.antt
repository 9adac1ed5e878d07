use Rattle.hsm_pinblock.proofs.BlockLaws.{one_pin_or_fault, holds_one_pin, has_no_fault, holds_some_pin, is_pin_of_block}
use Rattle.hsm_pinblock.proofs.laws.one_pin_or_fault.Goals as goal

pub returns : goal.returns
returns c = record { either = one_pin_or_fault; one = holds_one_pin; no_fault = has_no_fault; some = holds_some_pin; pin = is_pin_of_block }
