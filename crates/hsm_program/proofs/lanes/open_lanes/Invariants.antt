use Rattle.std.proofs.Common.{◌≡◌, map}
use Rattle.hsm_config.specs.Configs.{ports_of}
use Rattle.hsm_server.specs.Lanes.{lane_state}
use Rattle.hsm_program.specs.Serving.{AsksGatesOf}
use Rattle.hsm_program.proofs.Opening.{OpenTo}
use Rattle.hsm_program.proofs.lanes.open_lanes.Given as goal

abbrev pub invariant-lanes : goal.invariant-lanes
invariant-lanes g l = record {
  opened : OpenTo l.module l.config.accept (g.B.Bench.moments l.fn.bench) (ports_of l.config) l.desk (g.B.Bench.doors l.fn.bench) (g.B.Bench.doors l.bench) l.span l.number
      (map (lane_state g.B.Door.Door.doorway g.B.Door.Door.faults g.B.Door.Door.broken g.B.Door.Door.is_out g.B.Clock.Clock.last g.B.Clock.Clock.to_come g.B.Gate.Gate.calls) l.lanes.items);
  moments : g.B.Bench.moments l.bench ≡ g.B.Bench.moments l.fn.bench;
  gates : AsksGatesOf l.number (g.B.Bench.gates l.fn.bench) (g.B.Bench.gates l.bench);
  files : g.B.Bench.files l.bench ≡ g.B.Bench.files l.fn.bench;
  seeds : g.B.Bench.seeds l.bench ≡ g.B.Bench.seeds l.fn.bench;
}
