use Rattle.hsm_make.proofs.SettingsLaws.{odd, some_host}
use Rattle.hsm_make.proofs.module.made_module.Goals as goal

pub module-requires-clause-odd : goal.module-requires-clause-odd
module-requires-clause-odd c = odd c.made_config.result c.made_config.ensures

pub module-requires-clause-some_host : goal.module-requires-clause-some_host
module-requires-clause-some_host c = some_host c.made_config.result c.made_config.ensures
