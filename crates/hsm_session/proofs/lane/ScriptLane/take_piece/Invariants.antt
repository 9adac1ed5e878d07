use Rattle.std.proofs.Common.{◌≡◌, ◌<◌, ◌++◌, length, None, List, ℕ}
use Rattle.hsm_frame.specs.Calls.{IsNotYet}
use Rattle.hsm_auth.specs.History.{IsKnown}
use Rattle.hsm_answers.specs.Kept.{IsCacheOf}
use Rattle.hsm_session.proofs.Feeding.{Feeds}
use Rattle.hsm_session.proofs.lane.ScriptLane.take_piece.Given as goal

abbrev pub invariant-chunks : goal.invariant-chunks
invariant-chunks g l = record {
  is_open : l.self.short ≡ None;
  room : length l.self.frames.bytes < 65537;
  fed : (part : List ℕ) × (l.piece ≡ part ++ l.rest)
      × Feeds l.module l.moment l.initial.self l.self part l.answered l.initial.ledger l.ledger (g.S.Sink.stands_for l.initial.out) (g.S.Sink.stands_for l.out);
  waits : IsNotYet l.initial.self.frames.least l.initial.self.frames.bytes → IsNotYet l.initial.self.frames.least l.self.frames.bytes;
  known : IsKnown l.ledger;
  cache : IsCacheOf l.module l.buffers.cache;
  kept : g.S.Sink.faults l.out ≡ g.S.Sink.faults l.initial.out;
}

abbrev pub decreases-chunks : goal.decreases-chunks
decreases-chunks g l = length l.rest
