use Rattle.std.proofs.Common.{rules, ◌≡◌, ap}
use Rattle.hsm_program.specs.Serving.{lane_views}
use Rattle.hsm_program.specs.Words.{IsLocal, names}
use Rattle.hsm_program.proofs.LocalLaws.{asks_local, local_status, no_lanes, no_seed_fault, no_usage, not_of_serve, other_than_serve}
use Rattle.hsm_program.proofs.run.hsm_run.Goals as goal

pub returns-in-Ok : goal.returns-in-Ok
returns-in-Ok g c =
    let is_local : IsLocal c.in-Ok.command = search rules in
    let local = asks_local (names c.args.words.now) c.in-Ok.command c.in-Ok.ensures is_local in
    let same = c.without_lanes-in-Ok.ensures in
    let ended = c.hsm_local-status.ensures in
    let stay : (g.B.Bench.seeds c.hsm_local-status.new.bench ≡ g.B.Bench.seeds c.args.bench.now) × (g.B.Bench.doors c.hsm_local-status.new.bench ≡ g.B.Bench.doors c.args.bench.now) × (g.B.Bench.gates c.hsm_local-status.new.bench ≡ g.B.Bench.gates c.args.bench.now) =
    (ended.seeds, ended.doors, ended.gates) in
    record {
      words = rw same.1 (no_usage _ _ local ended.words);
      config = rw same.1 ended.config;
      headline = not_of_serve _ _ local;
      lanes = no_lanes _ _ _ _ local same.3 (ap (lane_views g.B.Door.Door.doorway g.B.Door.Door.faults g.B.Door.Door.broken) same.2);
      serve = not_of_serve _ _ local;
      script = rw (same.0, same.1) ended.script;
      check = rw (same.0, same.1) ended.check;
      row = rw (same.0, same.1) ended.row;
      made = rw (same.0, same.1) ended.made;
      status = rw (same.0, same.1) (local_status _ _ _ _ local ended.status);
      nothing = rw same.1 ended.nothing;
      file_cause = rw same.1 ended.file_cause;
      seed_cause = rw same.1 (λ is. absurd (no_seed_fault _ _ ended.status is));
      listen_cause = not_of_serve _ _ local;
      seed_first = not_of_serve _ _ local;
      gates = not_of_serve _ _ local;
      out_cause = rw same.1 ended.out_cause;
      no_file = ended.no_file;
      files = ended.files;
      given_back = ended.given_back;
      others = other_than_serve _ _ stay;
    }
