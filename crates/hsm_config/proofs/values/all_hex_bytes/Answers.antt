use Rattle.std.proofs.Common.{refl, arith}
use Rattle.hsm_config.proofs.ArrayLaws.{all_read, one_refused}
use Rattle.hsm_config.proofs.TestedAnswers.{none_if}
use Rattle.hsm_config.proofs.values.all_hex_bytes.Goals as goal

pub returns-in-None : goal.returns-in-None
returns-in-None g c =
    let fails = none_if _ _ c.hex_bytes.result c.hex_bytes.ensures c.in-None.is in
    rw (one_refused c.args.values.now g.row.COUNT g.row.N c.loop-i.i c.index-values-i.result (omega arith) c.index-values-i.is fails) refl

pub returns : goal.returns
returns g c =
    all_read c.args.values.now g.row.COUNT g.row.N c.loop-i.i c.loop-i.all c.if-values.false c.loop-i-test.false c.loop-i.invariant.1 c.loop-i.invariant.0
