use Rattle.std.proofs.Common.{◌≡◌, ◌≤◌, take, map, count_by}
use Rattle.hsm_io.specs.Texts.{Appends}
use Rattle.hsm_session.specs.Runs.{end_lines, is_cut, is_short}
use Rattle.hsm_session.specs.Lanes.{lane_end}
use Rattle.hsm_session.proofs.run.Run.end.Given as goal

abbrev pub invariant-lanes : goal.invariant-lanes
invariant-lanes g l = record {
  printed : Appends (g.S.Sink.stands_for l.initial.out) (g.S.Sink.stands_for l.out) (end_lines 1 (map lane_end (take l.lane-index l.lane-items)));
  cut : l.cut ≡ count_by is_cut (map lane_end (take l.lane-index l.lane-items));
  short : l.short ≡ count_by is_short (map lane_end (take l.lane-index l.lane-items));
  few : (l.cut ≤ l.lane-index) × (l.short ≤ l.lane-index);
  kept : g.S.Sink.faults l.out ≡ g.S.Sink.faults l.initial.out;
}
