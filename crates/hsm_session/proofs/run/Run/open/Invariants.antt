use Rattle.std.proofs.Common.{◌≡◌, ◌+◌, ℕ, [], length, slice_get, Some}
use Rattle.hsm_session.specs.declared.lane.ScriptLane.{ScriptLane}
use Rattle.hsm_session.specs.Lanes.{IsLaneAt, all_held}
use Rattle.hsm_session.proofs.run.Run.open.Given as goal

abbrev pub invariant-lanes : goal.invariant-lanes
invariant-lanes l = record {
  count : length l.lanes.items ≡ l.number;
  lanes : (i : ℕ) (lane : ScriptLane) → slice_get l.lanes.items i ≡ Some lane → IsLaneAt l.module (i + 1) [] lane;
  held : all_held l.lanes.items ≡ 0;
}
