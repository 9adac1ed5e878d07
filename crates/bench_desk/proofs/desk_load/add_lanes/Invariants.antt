use Rattle.std.proofs.Common.{◌≡◌, ◌-◌, ◌<◌, ◌≤◌, All}
use Rattle.hsm_desk.specs.Passes.{step}
use Rattle.bench_desk.specs.declared.desk_load.Lane.{Lane}
use Rattle.bench_desk.proofs.desk_load.add_lanes.Given as goal

abbrev pub invariant-loop-step : goal.invariant-loop-step
invariant-loop-step l = (l.pass.desk ≡ l.fn.desk) × (step l.pass ≤ l.step) × (0 < l.step) × (l.step ≤ 8589934592) × All (λ (x : Lane). x.pass.desk ≡ l.fn.desk) l.lanes.items

abbrev pub decreases-loop-step : goal.decreases-loop-step
decreases-loop-step l = 8589934592 - l.step
