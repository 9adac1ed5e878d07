use Rattle.std.proofs.Common.{◌≡◌, length}
use Rattle.hsm_auth.specs.History.{IsKnown}
use Rattle.hsm_answers.specs.Kept.{IsCacheOf}
use Rattle.hsm_session.proofs.Answering.{Answers}
use Rattle.hsm_session.proofs.lane.answer_held.Given as goal

abbrev pub invariant-messages : goal.invariant-messages
invariant-messages g l = record {
  answers : Answers l.module l.number l.moment l.initial.frames l.frames l.initial.ledger l.ledger (g.S.Sink.stands_for l.initial.out) (g.S.Sink.stands_for l.out) l.answered;
  known : IsKnown l.ledger;
  cache : IsCacheOf l.module l.buffers.cache;
  kept : g.S.Sink.faults l.out ≡ g.S.Sink.faults l.initial.out;
}

abbrev pub decreases-messages : goal.decreases-messages
decreases-messages g l = length l.frames.bytes
