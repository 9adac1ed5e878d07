use Rattle.std.proofs.Common.{◌≡◌, ◌+◌, ◌≤◌, ◌^◌, sum_by, drop}
use Rattle.std.specs.List.{AllByRecursion}
use Rattle.hsm_auth.specs.History.{IsKnown}
use Rattle.hsm_session.specs.Reading.{all_said}
use Rattle.hsm_answers.specs.Kept.{IsCacheOf}
use Rattle.hsm_session.specs.Lanes.{IsLine, all_held, weight}
use Rattle.hsm_session.proofs.Progress.{SoFar}
use Rattle.hsm_session.proofs.script.script_run.Given as goal

abbrev pub invariant-lines : goal.invariant-lines
invariant-lines g l = record {
  so_far : SoFar l.module (all_said l.line-items) (all_said (drop l.line-index l.line-items)) l.run l.initial.ledger l.ledger
      (g.S.Sink.stands_for l.initial.out) (g.S.Sink.stands_for l.out);
  room : l.run.entries + all_held l.run.lanes.items + sum_by weight (all_said (drop l.line-index l.line-items)) ≤ sum_by weight (all_said l.line-items);
  lines : AllByRecursion (IsLine l.module.hosts) (all_said (drop l.line-index l.line-items));
  moment : l.run.moment ≤ 2 ^ 40;
  known : IsKnown l.ledger;
  cache : IsCacheOf l.module l.buffers.cache;
  kept : g.S.Sink.faults l.out ≡ g.S.Sink.faults l.initial.out;
}
