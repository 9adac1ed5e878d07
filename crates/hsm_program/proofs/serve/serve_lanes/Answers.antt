use Rattle.std.proofs.Common.{◌≡◌, ◌<◌, IfSome, List, ℕ, Some, ap, arith, length, map, slice_get, slice_index_or, subst, sym, ◌∙◌}
use Rattle.std.specs.List.{AllZip}
use Rattle.std.proofs.lemmas.List.{length-map}
use Rattle.hsm_config.specs.Configs.{module_of, ports_of}
use Rattle.hsm_desk.specs.Passes.{PassView}
use Rattle.hsm_io.specs.Sides.{SeedSide}
use Rattle.hsm_rows.specs.declared.settings.Module.{Module}
use Rattle.hsm_server.specs.Lanes.{LaneView, Ran, lane_state, lane_view}
use Rattle.hsm_program.specs.Headline.{Setting}
use Rattle.hsm_program.specs.Lanes.{AreJoined, AreLanes, end_of_lane}
use Rattle.hsm_program.specs.Serving.{AsksGatesOf, ServedBy}
use Rattle.hsm_program.proofs.Lists.{map_at, stands_at}
use Rattle.hsm_program.proofs.Served.{few_some, map_twice, pass_of, ran_zip, ready, served_some}
use Rattle.hsm_program.proofs.Serving.{view_of}
use Rattle.hsm_program.proofs.serve.serve_lanes.Goals as goal

pub run_all-requires-clause-ready : goal.run_all-requires-clause-ready
run_all-requires-clause-ready g c κs within = λ k d less.
    let state = lane_state g.B.Door.Door.doorway g.B.Door.Door.faults g.B.Door.Door.broken g.B.Door.Door.is_out g.B.Clock.Clock.last g.B.Clock.Clock.to_come g.B.Gate.Gate.calls in
    let lanes = c.in_ok-lanes.lanes.items in
    ready _ _ _ _ _ _ _ c.in_ok-lanes.ensures.made k _ (map_at state lanes k (slice_index_or lanes k d) (stands_at lanes k d less))

pub returns-clause-some : goal.returns-clause-some
returns-clause-some g c =
    let state = lane_state g.B.Door.Door.doorway g.B.Door.Door.faults g.B.Door.Door.broken g.B.Door.Door.is_out g.B.Clock.Clock.last g.B.Clock.Clock.to_come g.B.Gate.Gate.calls in
    let count = c.in_ok-lanes.ensures.made.count in
    let same = length-map c.in_ok-lanes.lanes.items state in
    let kept = c.run_all.ensures.count in
    let some : 0 < length c.run_all.new.lanes.items = omega (arith, count, same, kept) in
    c.end_lanes-pass.ensures.some some

pub returns-clause-served : goal.returns-clause-served
returns-clause-served g c =
    let state = lane_state g.B.Door.Door.doorway g.B.Door.Door.faults g.B.Door.Door.broken g.B.Door.Door.is_out g.B.Clock.Clock.last g.B.Clock.Clock.to_come g.B.Gate.Gate.calls in
    let view = lane_view g.B.Door.Door.doorway g.B.Door.Door.faults g.B.Door.Door.broken in
    let lanes = c.in_ok-lanes.lanes.items in
    let served = c.run_all.new.lanes.items in
    let doors = g.B.Bench.doors c.args.bench.now in
    let moments = g.B.Bench.moments c.args.bench.now in
    let seeds = g.B.Bench.seeds c.open_lanes.new.bench in
    let seed_is : c.args.seed ≡ seeds.last_seed = sym c.requires.seed ∙ ap (λ (s : SeedSide). s.last_seed) (sym c.open_lanes.ensures.seeds) in
    let module_is : c.module-module.result ≡ module_of c.args.config.now seeds.last_seed = c.module-module.ensures ∙ ap (λ (s : List ℕ). module_of c.args.config.now s) seed_is in
    let made = subst (λ (m : Module). AreLanes m c.args.config.now.accept moments doors.connections (ports_of c.args.config.now) c.in-Ok-new.desk (map state lanes))
    module_is c.in_ok-lanes.ensures.made in
    let ran = subst (λ (m : Module). AllZip (Ran m) (map state lanes) (map state served)) module_is
    (ran_zip c.module-module.result state lanes served c.run_all.ensures.count c.run_all.ensures.ran) in
    let joined = subst (λ (passes : List PassView). IfSome c.end_lanes-pass.result (λ pass. AreJoined passes pass)) (sym (map_twice state pass_of served)) c.end_lanes-pass.ensures.joined in
    let views : map view c.end_lanes-pass.new.ends.items ≡ map view_of (map state served) =
    ap (λ (ends : List _). map view ends) c.end_lanes-pass.ensures.ends ∙ map_twice end_of_lane view served ∙ sym (map_twice state view_of served) in
    subst (λ (v : List LaneView). IfSome c.end_lanes-pass.result (λ pass. ServedBy doors moments seeds (g.B.Bench.doors c.open_lanes.new.bench) v pass c.args.config.now)) (sym views)
    (served_some c.own_entries.ensures.total c.own_entries.ensures.there c.own_entries.ensures.every c.words_authorise.ensures c.clear_where_granted.ensures.legal
    c.args.config.now doors (g.B.Bench.doors c.open_lanes.new.bench) seeds moments c.in-Ok-new.desk (map state lanes) (map state served) c.end_lanes-pass.result
    made ran joined c.end_lanes-pass.ensures.numbers c.in_ok-lanes.ensures.asked)

pub returns-clause-gates : goal.returns-clause-gates
returns-clause-gates g c =
    let state = lane_state g.B.Door.Door.doorway g.B.Door.Door.faults g.B.Door.Door.broken g.B.Door.Door.is_out g.B.Clock.Clock.last g.B.Clock.Clock.to_come g.B.Gate.Gate.calls in
    let view = lane_view g.B.Door.Door.doorway g.B.Door.Door.faults g.B.Door.Door.broken in
    let lanes = c.in_ok-lanes.lanes.items in
    let ends = c.end_lanes-pass.new.ends.items in
    let opened = c.in_ok-lanes.ensures.made.count in
    let states = length-map lanes state in
    let kept = c.run_all.ensures.count in
    let ended = ap (λ (l : List _). length l) c.end_lanes-pass.ensures.ends in
    let each_end = length-map c.run_all.new.lanes.items end_of_lane in
    let shown = length-map ends view in
    let is : length (ports_of c.args.config.now) ≡ length (map view ends) = omega (arith, opened, states, kept, ended, each_end, shown) in
    subst (λ (n : ℕ). AsksGatesOf n (g.B.Bench.gates c.args.bench.now) (g.B.Bench.gates c.open_lanes.new.bench)) is c.in_ok-lanes.ensures.gates

pub returns-clause-few : goal.returns-clause-few
returns-clause-few g c = λ k d less.
    let state = lane_state g.B.Door.Door.doorway g.B.Door.Door.faults g.B.Door.Door.broken g.B.Door.Door.is_out g.B.Clock.Clock.last g.B.Clock.Clock.to_come g.B.Gate.Gate.calls in
    let view = lane_view g.B.Door.Door.doorway g.B.Door.Door.faults g.B.Door.Door.broken in
    let lanes = c.in_ok-lanes.lanes.items in
    let served = c.run_all.new.lanes.items in
    let doors = g.B.Bench.doors c.args.bench.now in
    let moments = g.B.Bench.moments c.args.bench.now in
    let seeds = g.B.Bench.seeds c.open_lanes.new.bench in
    let seed_is : c.args.seed ≡ seeds.last_seed = sym c.requires.seed ∙ ap (λ (s : SeedSide). s.last_seed) (sym c.open_lanes.ensures.seeds) in
    let module_is : c.module-module.result ≡ module_of c.args.config.now seeds.last_seed = c.module-module.ensures ∙ ap (λ (s : List ℕ). module_of c.args.config.now s) seed_is in
    let made = subst (λ (m : Module). AreLanes m c.args.config.now.accept moments doors.connections (ports_of c.args.config.now) c.in-Ok-new.desk (map state lanes))
    module_is c.in_ok-lanes.ensures.made in
    let ran = subst (λ (m : Module). AllZip (Ran m) (map state lanes) (map state served)) module_is
    (ran_zip c.module-module.result state lanes served c.run_all.ensures.count c.run_all.ensures.ran) in
    let joined = subst (λ (passes : List PassView). IfSome c.end_lanes-pass.result (λ pass. AreJoined passes pass)) (sym (map_twice state pass_of served)) c.end_lanes-pass.ensures.joined in
    let views : map view c.end_lanes-pass.new.ends.items ≡ map view_of (map state served) =
    ap (λ (ends : List _). map view ends) c.end_lanes-pass.ensures.ends ∙ map_twice end_of_lane view served ∙ sym (map_twice state view_of served) in
    let setting : Setting = record { config = c.args.config.now; seed = seeds.last_seed; to_come = doors.connections; moments = moments } in
    let count = c.in_ok-lanes.ensures.made.count in
    let same = length-map lanes state in
    let kept = c.run_all.ensures.count in
    let some : 0 < length served = omega (arith, count, same, kept) in
    let ends = c.end_lanes-pass.new.ends.items in
    let at = subst (λ (v : List LaneView). slice_get v k ≡ Some (view (slice_index_or ends k d))) views (map_at view ends k (slice_index_or ends k d) (stands_at ends k d less)) in
    let few = few_some c.own_entries.ensures.total setting c.in-Ok-new.desk (map state lanes) (map state served) c.end_lanes-pass.result made ran joined c.end_lanes-pass.ensures.numbers
    (c.end_lanes-pass.ensures.some some) k (view (slice_index_or ends k d)) at in
    omega (arith, few)
