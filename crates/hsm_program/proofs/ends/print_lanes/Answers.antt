use Rattle.std.proofs.Common.{◌∙◌, ◌++◌, List, ℕ, map, subst, sym, take}
use Rattle.hsm_io.specs.Texts.{Appends, AppendsFront}
use Rattle.hsm_io.proofs.TextLemmas.{appends_then_front, appends_twice, front_of_more}
use Rattle.hsm_server.specs.Lanes.{lane_view}
use Rattle.hsm_program.specs.Serving.{lane_line, lane_lines}
use Rattle.hsm_program.proofs.Printing.{lines_at, lines_more}
use Rattle.hsm_program.proofs.ends.print_lanes.Goals as goal

pub returns-in-Err-clause-err : goal.returns-in-Err-clause-err
returns-in-Err-clause-err g c =
    let view = lane_view g.D.Door.doorway g.D.Door.faults g.D.Door.broken in
    let n = c.lanes.number in
    let end = c.index-ends-number.result in
    let before = g.S.Sink.stands_for c.args.out.now in
    let mid = g.S.Sink.stands_for c.lanes.out in
    let after = g.S.Sink.stands_for c.print_lane.new.out in
    let lines = lines_at view c.args.ends.now n end c.lanes-test.true c.index-ends-number.is in
    subst (λ (text : List ℕ). AppendsFront before after text) (sym lines.1)
    (appends_then_front before mid after (lane_lines 0 (map view (take n c.args.ends.now))) (lane_line n (view end) ++ lines.0) c.lanes.invariant.written
    (front_of_more mid after (lane_line n (view end)) lines.0 c.in-Err.ensures.err))

pub lanes-preserved : goal.lanes-preserved
lanes-preserved g c =
    let view = lane_view g.D.Door.doorway g.D.Door.faults g.D.Door.broken in
    let n = c.lanes.number in
    let end = c.index-ends-number.result in
    let before = g.S.Sink.stands_for c.args.out.now in
    let mid = g.S.Sink.stands_for c.lanes.out in
    let after = g.S.Sink.stands_for c.print_lane.new.out in
    record {
      written = subst (λ (text : List ℕ). Appends before after text) (sym (lines_more view c.args.ends.now n end c.lanes-test.true c.index-ends-number.is))
          (appends_twice before mid after (lane_lines 0 (map view (take n c.args.ends.now))) (lane_line n (view end)) c.lanes.invariant.written c.in-Ok.ensures.ok);
      kept = c.in-Ok.ensures.clean ∙ c.lanes.invariant.kept;
    }
