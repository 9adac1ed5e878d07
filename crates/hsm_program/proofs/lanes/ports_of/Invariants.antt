use Rattle.std.proofs.Common.{◌≡◌, ◌∷◌, take}
use Rattle.hsm_program.proofs.lanes.ports_of.Given as goal

abbrev pub invariant-ports : goal.invariant-ports
invariant-ports l = l.ports.items ≡ l.config.console_port ∷ take l.port-index l.config.host_ports.items
