use Rattle.std.proofs.Common.{◌≡◌, unwrap_or, length}
use Rattle.toml.specs.View.{view}
use Rattle.hsm_config.specs.Document.{is_within, integer_of}
use Rattle.hsm_config.proofs.Elements.{ReadTo}
use Rattle.hsm_config.proofs.ports.host_ports_of.Given as goal

abbrev pub invariant-loop-value : goal.invariant-loop-value
invariant-loop-value l =
    ReadTo (λ value. is_within 1 65535 (integer_of (view value))) (λ value. unwrap_or (integer_of (view value)) 0) l.values l.value-index l.ports.items
    × (length l.ports.items ≡ l.value-index)
