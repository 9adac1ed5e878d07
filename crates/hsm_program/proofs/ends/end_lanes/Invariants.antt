use Rattle.std.proofs.Common.{◌≡◌, ◌≤◌, map, IfSome}
use Rattle.std.specs.Vec.{vec_capacity}
use Rattle.hsm_program.specs.Lanes.{end_of_lane}
use Rattle.hsm_program.proofs.Joining.{JoinedTo}
use Rattle.hsm_program.proofs.ends.end_lanes.Given as goal

abbrev pub invariant-lanes : goal.invariant-lanes
invariant-lanes g l = record {
  ends : l.ends.items ≡ map end_of_lane l.yielded;
  room : vec_capacity l.initial.ends ≤ vec_capacity l.ends;
  joined : JoinedTo (map (λ lane. lane.tools.pass) l.yielded) l.joined;
  desk : IfSome l.joined (λ mine. mine.desk ≡ l.desk);
}
