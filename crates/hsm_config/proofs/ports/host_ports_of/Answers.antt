use Rattle.std.proofs.Common.{inl, inr, arith}
use Rattle.std.proofs.lemmas.Bool.Decides.{nat_tests}
use Rattle.toml.specs.View.{table_view, view}
use Rattle.hsm_config.specs.Document.{integer_of}
use Rattle.hsm_config.proofs.PortLaws.{all_ports, one_no_port, other_number, refused}
use Rattle.hsm_config.proofs.TestedAnswers.{no_number}
use Rattle.hsm_config.proofs.ports.host_ports_of.Goals as goal
use Rattle.hsm_config.proofs.ports.host_ports_of.Goals.{then-is_empty-via-then-is_empty, then-is_empty-via-else-is_empty+then-values-gt64}

pub returns-then-is_empty : goal.returns-then-is_empty
returns-then-is_empty c =
    let values = c.elements_at-values.result.now in
    refused (table_view c.args.table.now) values c.elements_at-values.ensures (other_number values (elim c.then-is_empty.either [
      | inl none ↦ inl (grind (arith, nat_tests))
      | inr many ↦ inr many.1
    ]))

pub returns-in-None : goal.returns-in-None
returns-in-None c =
    let values = c.elements_at-values.result.now in
    let fails = no_number 1 65535 (integer_of (view c.value-item.result)) c.number_within.result c.number_within.ensures c.in-None.is in
    refused (table_view c.args.table.now) values c.elements_at-values.ensures
    (one_no_port values c.loop-value.value-index c.value-item.result c.loop-value-test.true c.value-item.is fails)

pub returns : goal.returns
returns c =
    all_ports (table_view c.args.table.now) c.elements_at-values.result.now c.loop-value.value-index c.loop-value.ports.items c.elements_at-values.ensures
    (grind (arith, nat_tests)) c.if-values-gt64.false c.loop-value-test.false c.loop-value.invariant.0
