use Rattle.std.proofs.Common.{◌∙◌, ◌∷◌, [], arith, refl}
use Rattle.hsm_session.specs.Lanes.{StopsDraining}
use Rattle.hsm_session.proofs.Answering.{answers_none, answers_more, stops_answering}
use Rattle.hsm_session.proofs.BookingLaws.{for_err, still_known}
use Rattle.hsm_session.proofs.lane.answer_held.Goals as goal

pub overflow_add-answered : goal.overflow_add-answered
overflow_add-answered g c = omega (arith, c.messages.invariant.answers.spent)

pub messages-init : goal.messages-init
messages-init g c = record {
  answers = answers_none c.args.module.now c.args.number c.args.moment c.args.frames.now c.args.ledger.now (g.S.Sink.stands_for c.args.out.now);
  known = c.requires.known;
  cache = c.requires.cache;
  kept = refl;
}

pub messages-preserved : goal.messages-preserved
messages-preserved g c =
    let held = rw c.in-Message.is at c.next.follows.holds-at-none in
    let printed = c.in_ok-print_answer-in-Message.ensures in
    record {
      answers = answers_more c.args.module.now c.args.number c.args.moment c.args.frames.now c.messages.frames c.next.follows.lender-at-none
          c.args.ledger.now c.messages.ledger c.print_answer.new.ledger
          (g.S.Sink.stands_for c.args.out.now) (g.S.Sink.stands_for c.messages.out) (g.S.Sink.stands_for c.print_answer.new.out) c.messages.answered
          c.in-Message.message.now c.messages.invariant.answers held.0 held.1 held.2 printed.booked;
      known = still_known c.args.module.now c.args.number c.args.moment (c.in-Message.message.now ∷ []) c.messages.ledger c.print_answer.new.ledger
          (g.S.Sink.stands_for c.messages.out) (g.S.Sink.stands_for c.print_answer.new.out) printed.booked c.messages.invariant.known;
      cache = c.print_answer.ensures.cache;
      kept = printed.kept ∙ c.messages.invariant.kept;
    }

pub returns-in_err-print_answer-in-Message-clause-stops : goal.returns-in_err-print_answer-in-Message-clause-stops
returns-in_err-print_answer-in-Message-clause-stops g c =
    let m = c.args.module.now in
    let before = g.S.Sink.stands_for c.args.out.now in
    let after = g.S.Sink.stands_for c.print_answer.new.out in
    let held = rw c.in-Message.is at c.next.ensures.answer in
    for_err c.from_residual.result (StopsDraining m c.args.number c.args.moment c.args.frames.now c.args.ledger.now c.print_answer.new.ledger before after)
    (stops_answering m c.args.number c.args.moment c.args.frames.now c.messages.frames held.1.0 c.args.ledger.now c.messages.ledger c.print_answer.new.ledger
    before (g.S.Sink.stands_for c.messages.out) after c.messages.answered c.in-Message.message.now c.messages.invariant.answers held.0 held.1.1
    c.in_err-print_answer-in-Message.ensures.part)
