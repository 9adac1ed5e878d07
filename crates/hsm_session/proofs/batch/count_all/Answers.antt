use Rattle.std.proofs.Common.{◌≡◌, ◌+◌, List, length, take, ap, ◌∙◌, arith, length-take}
use Rattle.hsm_desk.specs.declared.desk.Booked.{Booked}
use Rattle.hsm_session.specs.declared.serving.Count.{Count}
use Rattle.hsm_session.specs.Serving.{one_more}
use Rattle.hsm_session.proofs.Batching.{counted_messages, counted_next}
use Rattle.hsm_session.proofs.batch.count_all.Goals as goal

pub add-requires : goal.add-requires
add-requires c =
    let front : List Booked = take c.entries.entry-index c.args.booked.now in
    let now : c.entries.count.messages ≡ c.args.count.now.messages + length front =
    ap (λ (count : Count). count.messages) c.entries.invariant ∙ counted_messages c.args.count.now front in
    omega (arith, now, length-take c.entries.entry-index c.args.booked.now)

pub entries-preserved : goal.entries-preserved
entries-preserved c =
    c.add.ensures ∙ ap (λ (count : Count). one_more count c.entry-item.result.place) c.entries.invariant
    ∙ counted_next c.args.count.now c.args.booked.now c.entries.entry-index c.entry-item.result c.entries-test.true c.entry-item.is
