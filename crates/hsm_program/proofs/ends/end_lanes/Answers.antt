use Rattle.std.proofs.Common.{rules, ◌≡◌, ◌<◌, ◌∙◌, ◌++◌, ◌∷◌, [], List, Some, ap, arith, length, map, subst, sym}
use Rattle.std.specs.Vec.{vec_capacity}
use Rattle.std.specs.Vec.Iter.{into_iter_len}
use Rattle.std.proofs.lemmas.Iterator.Adapters.{YieldsList-from_vec}
use Rattle.std.proofs.lemmas.Iterator.Consumers.{YieldsList-end, YieldsList-turn}
use Rattle.std.proofs.lemmas.List.{length-map, map-append}
use Rattle.hsm_desk.specs.Passes.{PassView}
use Rattle.hsm_program.specs.Lanes.{Joins, end_of_lane}
use Rattle.hsm_program.proofs.Joining.{JoinedTo, joined_all, joined_numbers, joined_push, joined_some, map-id}
use Rattle.hsm_program.proofs.ends.end_lanes.Goals as goal

pub lanes-preserved : goal.lanes-preserved
lanes-preserved g c =
    let ended = c.end-pass.ensures in
    let pass_is : c.end-pass.result.0 ≡ c.in-Some.lane.tools.pass = ap (λ (r : _). r.0) ended in
    let joins : Joins c.lanes.joined c.in-Some.lane.tools.pass c.join.result = subst (λ (p : PassView). Joins c.lanes.joined p c.join.result) pass_is c.join.ensures.joins in
    record {
      ends = c.in-Ok.ensures.items
          ∙ (λ i. c.lanes.invariant.ends i ++ (ended i).1 ∷ [])
          ∙ sym (map-append end_of_lane c.lanes.yielded (c.in-Some.lane ∷ []));
      room = search rules;
      joined = subst (λ (passes : List PassView). JoinedTo passes (Some c.join.result)) (sym (map-append (λ (lane : _). lane.tools.pass) c.lanes.yielded (c.in-Some.lane ∷ [])))
          (joined_push (map (λ lane. lane.tools.pass) c.lanes.yielded) c.lanes.joined c.in-Some.lane.tools.pass c.join.result c.lanes.invariant.joined joins c.join.ensures.numbers);
      desk = c.join.ensures.desk;
    }

pub unreachable-requires : goal.unreachable-requires
unreachable-requires g c =
    let same : into_iter_len c.into_iter-lane-iterator.result ≡ length c.args.lanes.items = search rules in
    let road = YieldsList-from_vec c.args.lanes.items c.into_iter-lane-iterator.ensures.into_iter_gives.0 same in
    let turn = YieldsList-turn road c.lanes.yielded c.lanes.lane-iterator c.lanes.yielded_by c.next.result c.next.new.self c.in-Some.lane c.in-Some.is c.next.ensures.steps in
    let so_far : length c.lanes.ends.items ≡ length c.lanes.yielded = ap (λ (l : List _). length l) c.lanes.invariant.ends ∙ length-map c.lanes.yielded end_of_lane in
    let less : length c.lanes.ends.items < vec_capacity c.lanes.ends = omega (arith, turn.0, so_far, c.requires.room, c.lanes.invariant.room) in
    search rules

pub join-requires-clause-other : goal.join-requires-clause-other
join-requires-clause-other g c =
    let same : into_iter_len c.into_iter-lane-iterator.result ≡ length c.args.lanes.items = search rules in
    let road = YieldsList-from_vec c.args.lanes.items c.into_iter-lane-iterator.ensures.into_iter_gives.0 same in
    let turn = YieldsList-turn road c.lanes.yielded c.lanes.lane-iterator c.lanes.yielded_by c.next.result c.next.new.self c.in-Some.lane c.in-Some.is c.next.ensures.steps in
    let of_desk = c.requires.of_desk (length c.lanes.yielded) c.in-Some.lane turn.0 in
    let here : c.in-Some.lane.tools.pass.desk ≡ c.args.desk.now = subst (λ (lane : _). lane.tools.pass.desk ≡ c.args.desk.now) (sym turn.1) of_desk in
    ap (λ (r : _). r.0.desk) c.end-pass.ensures ∙ here

all_yielded : goal.returns-clause-ends
all_yielded g c =
    let same : into_iter_len c.into_iter-lane-iterator.result ≡ length c.args.lanes.items = search rules in
    let road = YieldsList-from_vec c.args.lanes.items c.into_iter-lane-iterator.ensures.into_iter_gives.0 same in
    let whole = YieldsList-end road c.lanes.yielded c.lanes.lane-iterator c.lanes.yielded_by c.next.result c.next.new.self c.in-None.is c.next.ensures.steps in
    let all : c.lanes.yielded ≡ c.args.lanes.items = sym (map-id c.lanes.yielded) ∙ whole.0 in
    c.lanes.invariant.ends ∙ ap (λ (l : List _). map end_of_lane l) all

pub returns-clause-ends : goal.returns-clause-ends
returns-clause-ends g c = all_yielded g c

pub returns-clause-joined : goal.returns-clause-joined
returns-clause-joined g c =
    let same : into_iter_len c.into_iter-lane-iterator.result ≡ length c.args.lanes.items = search rules in
    let road = YieldsList-from_vec c.args.lanes.items c.into_iter-lane-iterator.ensures.into_iter_gives.0 same in
    let whole = YieldsList-end road c.lanes.yielded c.lanes.lane-iterator c.lanes.yielded_by c.next.result c.next.new.self c.in-None.is c.next.ensures.steps in
    let all : c.lanes.yielded ≡ c.args.lanes.items = sym (map-id c.lanes.yielded) ∙ whole.0 in
    joined_all (map (λ lane. lane.tools.pass) c.args.lanes.items) c.lanes.joined
    (subst (λ (l : List _). JoinedTo (map (λ lane. lane.tools.pass) l) c.lanes.joined) all c.lanes.invariant.joined)

pub returns-clause-numbers : goal.returns-clause-numbers
returns-clause-numbers g c = joined_numbers (map (λ lane. lane.tools.pass) c.lanes.yielded) c.lanes.joined c.lanes.invariant.joined

pub returns-clause-some : goal.returns-clause-some
returns-clause-some g c = λ some.
    let same : into_iter_len c.into_iter-lane-iterator.result ≡ length c.args.lanes.items = search rules in
    let road = YieldsList-from_vec c.args.lanes.items c.into_iter-lane-iterator.ensures.into_iter_gives.0 same in
    let whole = YieldsList-end road c.lanes.yielded c.lanes.lane-iterator c.lanes.yielded_by c.next.result c.next.new.self c.in-None.is c.next.ensures.steps in
    joined_some (map (λ lane. lane.tools.pass) c.lanes.yielded) c.lanes.joined c.lanes.invariant.joined
    (omega (arith, some, whole.1, length-map c.lanes.yielded (λ lane. lane.tools.pass)))
