use Rattle.std.proofs.Common.{rules, refl, IfErr, Option, Result, ◌≡◌, ◌<◌, ◌-◌, ◌+◌, ◌++◌, ◌∷◌, [], List, ℕ, Some, ap, arith, length, map, slice_get, slice_index_or, slice_set, subst, sym, ◌∙◌}
use Rattle.std.proofs.lemmas.List.{length-map, map-append}
use Rattle.std.proofs.lemmas.Result.{err_from_is_err_and}
use Rattle.hsm_config.specs.Configs.{ports_of}
use Rattle.hsm_desk.specs.Passes.{PassView}
use Rattle.hsm_io.specs.Sides.{IsNotAmong}
use Rattle.hsm_server.specs.Lanes.{LaneState, lane_state}
use Rattle.hsm_program.specs.declared.lanes.LanesFault.{LanesFault}
use Rattle.hsm_program.specs.Lanes.{AreRefused, AskGates, IsNewLane, keeps}
use Rattle.hsm_program.specs.Serving.{AsksGatesOf}
use Rattle.hsm_program.proofs.Gates.{gates_refused, no_gates, one_gate_more}
use Rattle.hsm_program.proofs.Apart.{apart}
use Rattle.hsm_program.proofs.Lists.{map_at, stands_at}
use Rattle.hsm_program.proofs.Opening.{OpenTo, all_open, map_set, open_first, open_more, place, refused_first, refused_next, source}
use Rattle.hsm_program.proofs.lanes.open_lanes.Goals as goal

pub returns-in_err-lane-clause-refused : goal.returns-in_err-lane-clause-refused
returns-in_err-lane-clause-refused g c =
    let ports_are : c.deref.result.now ≡ ports_of c.args.config.now = search rules in
    let some : 0 < length c.deref.result.now = subst (λ (ports : List ℕ). 0 < length ports) (sym ports_are) (omega arith) in
    let at_port : slice_get (ports_of c.args.config.now) 0 ≡ Some (slice_index_or c.deref.result.now 0 0) =
    subst (λ (ports : List ℕ). slice_get ports 0 ≡ Some (slice_index_or c.deref.result.now 0 0)) ports_are (stands_at c.deref.result.now 0 0 some) in
    let before = g.B.Bench.doors c.args.bench.now in
    let after = g.B.Bench.doors c.open_lane.new.bench in
    let refused = refused_first (ports_of c.args.config.now) before after (slice_index_or c.deref.result.now 0 0) _ at_port c.requires.asked c.open_lane.ensures.asked c.in_err-lane.ensures.refused in
    let fault = err_from_is_err_and c.from_residual.result c.from_residual.ensures.1 in
    subst (λ (r : Result _ LanesFault). IfErr r (λ f. AreRefused (ports_of c.args.config.now) before after f)) (sym fault.1)
    (subst (λ (f : LanesFault). AreRefused (ports_of c.args.config.now) before after f) (sym fault.2) refused)

pub returns-in_err-lane-clause-refused_gates : goal.returns-in_err-lane-clause-refused_gates
returns-in_err-lane-clause-refused_gates g c =
    let before = g.B.Bench.gates c.args.bench.now in
    let after = g.B.Bench.gates c.open_lane.new.bench in
    let refused = gates_refused 0 before before after _ (no_gates before before refl) c.in_err-lane.ensures.refused_gate in
    let fault = err_from_is_err_and c.from_residual.result c.from_residual.ensures.1 in
    subst (λ (r : Result _ LanesFault). IfErr r (λ f. AskGates before after f)) (sym fault.1)
    (subst (λ (f : LanesFault). AskGates before after f) (sym fault.2) refused)

pub returns-in-Err-clause-refused_gates : goal.returns-in-Err-clause-refused_gates
returns-in-Err-clause-refused_gates g c = (1, c.in_ok-lane.ensures.gate)

pub returns-in-Err-push-clause-refused_gates : goal.returns-in-Err-push-clause-refused_gates
returns-in-Err-push-clause-refused_gates g c = (c.lanes.number + 1, one_gate_more c.lanes.number _ _ _ c.lanes.invariant.gates c.in_ok-lane-2.ensures.gate)

pub lanes-init : goal.lanes-init
lanes-init g c =
    let ports_are : c.deref.result.now ≡ ports_of c.args.config.now = search rules in
    let some : 0 < length c.deref.result.now = subst (λ (ports : List ℕ). 0 < length ports) (sym ports_are) (omega arith) in
    let at_port : slice_get (ports_of c.args.config.now) 0 ≡ Some (slice_index_or c.deref.result.now 0 0) =
    subst (λ (ports : List ℕ). slice_get ports 0 ≡ Some (slice_index_or c.deref.result.now 0 0)) ports_are (stands_at c.deref.result.now 0 0 some) in
    let first = open_first _ _ _ _ _ _ _ (slice_index_or c.deref.result.now 0 0) _ _ at_port c.requires.asked c.requires.first c.in_ok-lane.ensures.opened c.in_ok-lane.ensures.others c.in_ok-lane.ensures.asked in
    let items : c.push.new.self.items ≡ c.in_ok-lane.lane ∷ [] = c.in-Ok.ensures.items ∙ ap (λ (l : List _). l ++ c.in_ok-lane.lane ∷ []) c.new-lanes.ensures.items in
    record {
      opened = subst (λ (l : List _). OpenTo c.args.module.now c.args.config.now.accept (g.B.Bench.moments c.args.bench.now) (ports_of c.args.config.now) c.args.desk.now
          (g.B.Bench.doors c.args.bench.now) (g.B.Bench.doors c.open_lane.new.bench) 1 1
          (map (lane_state g.B.Door.Door.doorway g.B.Door.Door.faults g.B.Door.Door.broken g.B.Door.Door.is_out g.B.Clock.Clock.last g.B.Clock.Clock.to_come g.B.Gate.Gate.calls) l)) (sym items) first;
      moments = c.open_lane.ensures.moments;
      gates = c.in_ok-lane.ensures.gate;
      files = c.open_lane.ensures.files;
      seeds = c.open_lane.ensures.seeds;
    }

pub overflow_sub-number : goal.overflow_sub-number
overflow_sub-number g c = (place _ _ _ _ _ _ _ _ _ _ _ c.lanes.invariant.opened c.next_span-span.ensures).0

pub index_mut-requires : goal.index_mut-requires
index_mut-requires g c =
    let less = (place _ _ _ _ _ _ _ _ _ _ _ c.lanes.invariant.opened c.next_span-span.ensures).1 in
    let count = length-map c.lanes.lanes.items (lane_state g.B.Door.Door.doorway g.B.Door.Door.faults g.B.Door.Door.broken g.B.Door.Door.is_out g.B.Clock.Clock.last g.B.Clock.Clock.to_come g.B.Gate.Gate.calls) in
    let here : c.lanes.number - c.next_span-span.result < length c.lanes.lanes.items = omega (arith, less, count) in
    search rules

pub split_lane-pass-requires-clause-desk : goal.split_lane-pass-requires-clause-desk
split_lane-pass-requires-clause-desk g c κs within =
    let opened = c.lanes.invariant.opened in
    let less = (place _ _ _ _ _ _ _ _ _ _ _ opened c.next_span-span.ensures).1 in
    let state = lane_state g.B.Door.Door.doorway g.B.Door.Door.faults g.B.Door.Door.broken g.B.Door.Door.is_out g.B.Clock.Clock.last g.B.Clock.Clock.to_come g.B.Gate.Gate.calls in
    let here : c.lanes.number - c.next_span-span.result < length c.lanes.lanes.items = omega (arith, less, length-map c.lanes.lanes.items state) in
    let at = map_at state c.lanes.lanes.items (c.lanes.number - c.next_span-span.result) c.index_mut.result.now
    (stands_at c.lanes.lanes.items (c.lanes.number - c.next_span-span.result) c.index_mut.result.now here ∙ ap Some (sym c.index_mut.ensures.value)) in
    let ports_are : length (ports_of c.args.config.now) ≡ c.len-number-end.result = search rules in
    (source _ _ _ _ _ _ _ _ _ _ _ _ opened c.next_span-span.ensures (omega (arith, c.lanes-test.true, ports_are)) at).of_desk

pub split_lane-pass-requires-clause-room : goal.split_lane-pass-requires-clause-room
split_lane-pass-requires-clause-room g c κs within =
    let opened = c.lanes.invariant.opened in
    let less = (place _ _ _ _ _ _ _ _ _ _ _ opened c.next_span-span.ensures).1 in
    let state = lane_state g.B.Door.Door.doorway g.B.Door.Door.faults g.B.Door.Door.broken g.B.Door.Door.is_out g.B.Clock.Clock.last g.B.Clock.Clock.to_come g.B.Gate.Gate.calls in
    let here : c.lanes.number - c.next_span-span.result < length c.lanes.lanes.items = omega (arith, less, length-map c.lanes.lanes.items state) in
    let at = map_at state c.lanes.lanes.items (c.lanes.number - c.next_span-span.result) c.index_mut.result.now
    (stands_at c.lanes.lanes.items (c.lanes.number - c.next_span-span.result) c.index_mut.result.now here ∙ ap Some (sym c.index_mut.ensures.value)) in
    let ports_are : length (ports_of c.args.config.now) ≡ c.len-number-end.result = search rules in
    let few = (source _ _ _ _ _ _ _ _ _ _ _ _ opened c.next_span-span.ensures (omega (arith, c.lanes-test.true, ports_are)) at).few in
    omega (arith, few, c.lanes-test.true, c.len-number-end.ensures.fits)

pub open_lane-requires-in-lanes-clause-new : goal.open_lane-requires-in-lanes-clause-new
open_lane-requires-in-lanes-clause-new g c κs within =
    let ports_are : c.deref-in-lanes.result.now ≡ ports_of c.args.config.now = search rules in
    let count : length (ports_of c.args.config.now) ≡ c.len-number-end.result = search rules in
    let less : c.lanes.number < length c.deref-in-lanes.result.now = omega (arith, c.lanes-test.true, count, ap (λ (l : List ℕ). length l) ports_are) in
    let at_port = subst (λ (ports : List ℕ). slice_get ports c.lanes.number ≡ Some (slice_index_or c.deref-in-lanes.result.now c.lanes.number 0)) ports_are
    (stands_at c.deref-in-lanes.result.now c.lanes.number 0 less) in
    let among = apart (ports_of c.args.config.now) c.lanes.number (slice_index_or c.deref-in-lanes.result.now c.lanes.number 0) c.requires.different at_port in
    subst (λ (ports : List ℕ). IsNotAmong (slice_index_or c.deref-in-lanes.result.now c.lanes.number 0) ports) (sym c.lanes.invariant.opened.asked) among

pub returns-in_err-lane-2-clause-refused : goal.returns-in_err-lane-2-clause-refused
returns-in_err-lane-2-clause-refused g c =
    let ports_are : c.deref-in-lanes.result.now ≡ ports_of c.args.config.now = search rules in
    let count : length (ports_of c.args.config.now) ≡ c.len-number-end.result = search rules in
    let less : c.lanes.number < length c.deref-in-lanes.result.now = omega (arith, c.lanes-test.true, count, ap (λ (l : List ℕ). length l) ports_are) in
    let at_port = subst (λ (ports : List ℕ). slice_get ports c.lanes.number ≡ Some (slice_index_or c.deref-in-lanes.result.now c.lanes.number 0)) ports_are
    (stands_at c.deref-in-lanes.result.now c.lanes.number 0 less) in
    let refused = refused_next _ _ _ _ _ (g.B.Bench.doors c.args.bench.now) (g.B.Bench.doors c.lanes.bench) (g.B.Bench.doors c.open_lane-in-lanes.new.bench) _ _ (slice_index_or c.deref-in-lanes.result.now c.lanes.number 0) _ _ c.lanes.invariant.opened at_port c.open_lane-in-lanes.ensures.asked c.in_err-lane-2.ensures.refused in
    let fault = err_from_is_err_and c.from_residual-in_err-lane-2.result c.from_residual-in_err-lane-2.ensures.1 in
    subst (λ (r : Result _ LanesFault). IfErr r (λ f. AreRefused (ports_of c.args.config.now) (g.B.Bench.doors c.args.bench.now) (g.B.Bench.doors c.open_lane-in-lanes.new.bench) f)) (sym fault.1)
    (subst (λ (f : LanesFault). AreRefused (ports_of c.args.config.now) (g.B.Bench.doors c.args.bench.now) (g.B.Bench.doors c.open_lane-in-lanes.new.bench) f) (sym fault.2) refused)

pub returns-in_err-lane-2-clause-refused_gates : goal.returns-in_err-lane-2-clause-refused_gates
returns-in_err-lane-2-clause-refused_gates g c =
    let before = g.B.Bench.gates c.args.bench.now in
    let after = g.B.Bench.gates c.open_lane-in-lanes.new.bench in
    let refused = gates_refused c.lanes.number before (g.B.Bench.gates c.lanes.bench) after _ c.lanes.invariant.gates c.in_err-lane-2.ensures.refused_gate in
    let fault = err_from_is_err_and c.from_residual-in_err-lane-2.result c.from_residual-in_err-lane-2.ensures.1 in
    subst (λ (r : Result _ LanesFault). IfErr r (λ f. AskGates before after f)) (sym fault.1)
    (subst (λ (f : LanesFault). AskGates before after f) (sym fault.2) refused)

pub lanes-preserved : goal.lanes-preserved
lanes-preserved g c =
    let state = lane_state g.B.Door.Door.doorway g.B.Door.Door.faults g.B.Door.Door.broken g.B.Door.Door.is_out g.B.Clock.Clock.last g.B.Clock.Clock.to_come g.B.Gate.Gate.calls in
    let ports_are : c.deref-in-lanes.result.now ≡ ports_of c.args.config.now = search rules in
    let count : length (ports_of c.args.config.now) ≡ c.len-number-end.result = search rules in
    let less : c.lanes.number < length c.deref-in-lanes.result.now = omega (arith, c.lanes-test.true, count, ap (λ (l : List ℕ). length l) ports_are) in
    let at_port = subst (λ (ports : List ℕ). slice_get ports c.lanes.number ≡ Some (slice_index_or c.deref-in-lanes.result.now c.lanes.number 0)) ports_are
    (stands_at c.deref-in-lanes.result.now c.lanes.number 0 less) in
    let among = apart (ports_of c.args.config.now) c.lanes.number (slice_index_or c.deref-in-lanes.result.now c.lanes.number 0) c.requires.different at_port in
    let there = place _ _ _ _ _ _ _ _ _ _ _ c.lanes.invariant.opened c.next_span-span.ensures in
    let here : c.lanes.number - c.next_span-span.result < length c.lanes.lanes.items = (let h = there.1 in omega (arith, h, length-map c.lanes.lanes.items state)) in
    let at = map_at state c.lanes.lanes.items (c.lanes.number - c.next_span-span.result) c.index_mut.result.now
    (stands_at c.lanes.lanes.items (c.lanes.number - c.next_span-span.result) c.index_mut.result.now here ∙ ap Some (sym c.index_mut.ensures.value)) in
    let from = source _ _ _ _ _ _ _ _ _ _ _ _ c.lanes.invariant.opened c.next_span-span.ensures (omega (arith, c.lanes-test.true, count)) at in
    let is : c.lanes.number - c.next_span-span.result + c.next_span-span.result ≡ c.lanes.number = (let least = there.0 in omega (arith, least)) in
    let new = subst (λ (pass : PassView). IsNewLane c.args.module.now c.args.config.now.accept (g.B.Bench.moments c.args.bench.now)
    ((g.B.Bench.doors c.lanes.bench).connections (slice_index_or c.deref-in-lanes.result.now c.lanes.number 0)) c.lanes.number pass (state c.in_ok-lane-2.lane))
    c.split_lane-pass.ensures.new
    (subst (λ (moments : Option (List ℕ)). IsNewLane c.args.module.now c.args.config.now.accept moments
    ((g.B.Bench.doors c.lanes.bench).connections (slice_index_or c.deref-in-lanes.result.now c.lanes.number 0)) c.lanes.number c.split_lane-pass.result (state c.in_ok-lane-2.lane))
    c.lanes.invariant.moments c.in_ok-lane-2.ensures.opened) in
    let more = open_more _ _ _ _ _ _ _ _ _ _ (slice_index_or c.deref-in-lanes.result.now c.lanes.number 0) _ _ _ _ from.opened from.below is at at_port among new
    c.in_ok-lane-2.ensures.others c.in_ok-lane-2.ensures.asked in
    let shape : map state c.push-in-lanes.new.self.items
    ≡ slice_set (map state c.lanes.lanes.items) (c.lanes.number - c.next_span-span.result) (keeps (state c.index_mut.result.now)) ++ state c.in_ok-lane-2.lane ∷ [] =
    ap (λ (l : List _). map state l) c.in-Ok-push.ensures.items
    ∙ map-append state (slice_set c.lanes.lanes.items (c.lanes.number - c.next_span-span.result) c.split_lane-pass.new.lane) (c.in_ok-lane-2.lane ∷ [])
    ∙ ap (λ (l : List LaneState). l ++ state c.in_ok-lane-2.lane ∷ [])
    (map_set state c.lanes.lanes.items (c.lanes.number - c.next_span-span.result) c.split_lane-pass.new.lane
    ∙ ap (λ (s : LaneState). slice_set (map state c.lanes.lanes.items) (c.lanes.number - c.next_span-span.result) s) c.split_lane-pass.ensures.given) in
    record {
      opened = subst (λ (l : List LaneState). OpenTo c.args.module.now c.args.config.now.accept (g.B.Bench.moments c.args.bench.now) (ports_of c.args.config.now) c.args.desk.now
          (g.B.Bench.doors c.args.bench.now) (g.B.Bench.doors c.open_lane-in-lanes.new.bench) c.next_span-span.result (c.lanes.number + 1) l) (sym shape) more;
      moments = c.open_lane-in-lanes.ensures.moments ∙ c.lanes.invariant.moments;
      gates = one_gate_more c.lanes.number _ _ _ c.lanes.invariant.gates c.in_ok-lane-2.ensures.gate;
      files = c.open_lane-in-lanes.ensures.files ∙ c.lanes.invariant.files;
      seeds = c.open_lane-in-lanes.ensures.seeds ∙ c.lanes.invariant.seeds;
    }

pub returns-clause-made : goal.returns-clause-made
returns-clause-made g c =
    let count : length (ports_of c.args.config.now) ≡ c.len-number-end.result = search rules in
    all_open _ _ _ _ _ _ _ _ _ _ c.lanes.invariant.opened (omega (arith, count, c.lanes-test.false, c.lanes.auto.number-end))

pub returns-clause-gates : goal.returns-clause-gates
returns-clause-gates g c =
    let count : length (ports_of c.args.config.now) ≡ c.len-number-end.result = search rules in
    let all : c.lanes.number ≡ length (ports_of c.args.config.now) = omega (arith, count, c.lanes-test.false, c.lanes.auto.number-end) in
    subst (λ (n : ℕ). AsksGatesOf n (g.B.Bench.gates c.args.bench.now) (g.B.Bench.gates c.lanes.bench)) all c.lanes.invariant.gates
