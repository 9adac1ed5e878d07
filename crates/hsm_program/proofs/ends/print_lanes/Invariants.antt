use Rattle.std.proofs.Common.{◌≡◌, take}
use Rattle.hsm_io.specs.Texts.{Appends}
use Rattle.hsm_program.specs.Serving.{lane_lines, lane_views}
use Rattle.hsm_program.proofs.ends.print_lanes.Given as goal

abbrev pub invariant-lanes : goal.invariant-lanes
invariant-lanes g l = record {
  written : Appends (g.S.Sink.stands_for l.fn.out) (g.S.Sink.stands_for l.out) (lane_lines 0 (lane_views g.D.Door.doorway g.D.Door.faults g.D.Door.broken (take l.number l.ends)));
  kept : g.S.Sink.faults l.out ≡ g.S.Sink.faults l.fn.out;
}
