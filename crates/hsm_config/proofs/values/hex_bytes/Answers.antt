use Rattle.std.proofs.Common.{ap, ◌∙◌}
use Rattle.std.specs.Result.{result_ok}
use Rattle.hsm_config.proofs.HexLaws.{hex_sized}
use Rattle.hsm_config.proofs.values.hex_bytes.Goals as goal

pub returns-in-Some : goal.returns-in-Some
returns-in-Some g c =
    let text = rw c.in-Some.is at c.as_str.ensures in
    rw (← text) (c.ok.ensures.value ∙ ap result_ok c.from_hex.ensures ∙ hex_sized c.in-Some.text.now g.row.N)
