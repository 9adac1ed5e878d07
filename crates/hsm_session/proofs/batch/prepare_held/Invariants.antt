use Rattle.std.proofs.Common.{◌≡◌, ◌*◌, ◌≤◌, ◌-◌, ◌++◌, length, drop}
use Rattle.hsm_session.specs.Batches.{Prepares, frames_of}
use Rattle.hsm_answers.specs.Kept.{IsCacheOf}
use Rattle.hsm_session.proofs.batch.prepare_held.Given as goal

abbrev pub invariant-messages : goal.invariant-messages
invariant-messages g l = record {
  agrees : IsCacheOf l.module l.cache;
  prepared : Prepares l.module l.kind l.initial.cache l.plans.items l.cache;
  within : l.at ≤ length l.frames.bytes;
  messages : l.frames.bytes ≡ frames_of l.plans.items ++ drop l.at l.frames.bytes;
  taken : 2 * length l.plans.items ≤ l.at;
  small : l.at ≤ 65537 * length l.plans.items;
}

abbrev pub decreases-messages : goal.decreases-messages
decreases-messages g l = length l.frames.bytes - l.at
