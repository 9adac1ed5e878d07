use Rattle.hsm_config.proofs.PairLaws.{no_fault}
use Rattle.hsm_config.proofs.configuration.Config.module.Goals as goal

pub unreachable-requires : goal.unreachable-requires
unreachable-requires c = no_fault c.args.self.now.pairs c.of.result c.in-Err.field-0 c.requires.odd c.in-Err.is c.of.ensures.parity
