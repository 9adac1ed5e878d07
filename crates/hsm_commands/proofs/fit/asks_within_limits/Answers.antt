use Rattle.hsm_commands.proofs.AskLimits.{asks_within}
use Rattle.hsm_commands.proofs.TableRows.{console_fits, host_fits}
use Rattle.hsm_commands.proofs.fit.asks_within_limits.Goals as goal

pub returns-clause-host : goal.returns-clause-host
returns-clause-host c = λ m row text host. asks_within c.texts_stand.ensures.are c.texts_stand.ensures.console m row text (host_fits row host)

pub returns-clause-console : goal.returns-clause-console
returns-clause-console c = λ m row text console. asks_within c.texts_stand.ensures.are c.texts_stand.ensures.console m row text (console_fits row console)
