use Rattle.std.proofs.Common.{◌≡◌, ◌*◌, take, length}
use Rattle.toml.specs.Data.{as_str}
use Rattle.toml.specs.View.{view}
use Rattle.hsm_config.specs.Document.{hex_bytes, is_hex}
use Rattle.hsm_config.proofs.Elements.{ReadTo}
use Rattle.hsm_config.proofs.values.all_hex_bytes.Given as goal

abbrev pub invariant-loop-i : goal.invariant-loop-i
invariant-loop-i g l =
    ReadTo (λ value. is_hex (2 * g.row.N) (as_str (view value))) (λ value. hex_bytes (as_str (view value))) l.values l.i (take l.i l.all)
    × (length l.all ≡ g.row.COUNT)
