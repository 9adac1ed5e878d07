use Rattle.std.proofs.Common.{arith}
use Rattle.hsm_verify.proofs.ValueLaws.{decimals_below}
use Rattle.hsm_commands.proofs.value_card.cvv_text.Goals as goal

pub characters-requires : goal.characters-requires
characters-requires c = (omega arith, decimals_below c.cvv-value.result c.cvv-value.ensures.decimal)
