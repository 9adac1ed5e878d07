use mir.Val.{bool_byte}
use Rattle.std.proofs.Common.{◌≡◌, Bool, true, false, cond, ℕ, List, ◌+◌, ◌∙◌, ◌++◌, length, map, take, slice_get, refl, sym, ap, subst, arith}
use Rattle.std.proofs.lemmas.List.{take_all}
use Rattle.std.proofs.lemmas.Option.{slice_get_read}
use Rattle.hsm_io.specs.Texts.{Appends, AppendsFront}
use Rattle.hsm_io.proofs.TextLemmas.{appends_then_front, appends_twice}
use Rattle.hsm_session.specs.declared.lane.ScriptLane.{ScriptLane}
use Rattle.hsm_session.specs.Runs.{end_line, end_lines, is_cut, is_short, last_line}
use Rattle.hsm_session.specs.Lanes.{lane_end, run_end}
use Rattle.hsm_session.proofs.BookingLaws.{for_err}
use Rattle.hsm_session.proofs.EndLaws.{bit_most, line_stopped, lines_more, counts_more}
use Rattle.hsm_session.proofs.run.Run.end.Goals as goal

byte_is : (b : Bool) → bool_byte b ≡ cond b 1 0
byte_is true = refl
byte_is false = refl

pub lanes-preserved : goal.lanes-preserved
lanes-preserved g c =
    let lanes = c.deref-lane-items.result.now in
    let place = c.lanes.lane-index in
    let lane = c.lane-item.result in
    let before = g.S.Sink.stands_for c.args.out.now in
    let mid = g.S.Sink.stands_for c.lanes.out in
    let after = g.S.Sink.stands_for c.print_end.new.out in
    let numbered = c.requires.numbers place lane
    (ap (λ (all : List ScriptLane). slice_get all place) (sym c.deref-lane-items.ensures.value) ∙ slice_get_read lanes (length lanes) place lane refl c.lanes-test.true c.lane-item.is) in
    let cut : c.from-cut.result ≡ cond {A = ℕ} (is_cut (lane_end lane)) 1 0 = c.from-cut.ensures ∙ ap (λ (b : Bool). bool_byte b) c.is_cut.ensures ∙ byte_is (is_cut (lane_end lane)) in
    let short : c.from-short.result ≡ cond {A = ℕ} (is_short (lane_end lane)) 1 0 = c.from-short.ensures ∙ ap (λ (b : Bool). bool_byte b) c.is_short.ensures ∙ byte_is (is_short (lane_end lane)) in
    record {
      printed = subst (Appends before after) (sym (lines_more lanes place lane c.lanes-test.true c.lane-item.is numbered))
          (appends_twice before mid after (end_lines 1 (map lane_end (take place lanes))) (end_line lane.number (lane_end lane)) c.lanes.invariant.printed c.in_ok-print_end.ensures.ok);
      cut = ap (λ (n : ℕ). c.lanes.cut + n) cut ∙ counts_more is_cut lanes place lane c.lanes.cut c.lanes-test.true c.lane-item.is c.lanes.invariant.cut;
      short = ap (λ (n : ℕ). c.lanes.short + n) short ∙ counts_more is_short lanes place lane c.lanes.short c.lanes-test.true c.lane-item.is c.lanes.invariant.short;
      few = (
        omega (arith, c.lanes.invariant.few.0, cut, bit_most (is_cut (lane_end lane))),
        omega (arith, c.lanes.invariant.few.1, short, bit_most (is_short (lane_end lane))),
      );
      kept = c.in_ok-print_end.ensures.kept ∙ c.lanes.invariant.kept;
    }

pub returns-in_err-print_end-clause-front : goal.returns-in_err-print_end-clause-front
returns-in_err-print_end-clause-front g c =
    let lanes = c.deref-lane-items.result.now in
    let place = c.lanes.lane-index in
    let lane = c.lane-item.result in
    let before = g.S.Sink.stands_for c.args.out.now in
    let mid = g.S.Sink.stands_for c.lanes.out in
    let after = g.S.Sink.stands_for c.print_end.new.out in
    let numbered = c.requires.numbers place lane
    (ap (λ (all : List ScriptLane). slice_get all place) (sym c.deref-lane-items.ensures.value) ∙ slice_get_read lanes (length lanes) place lane refl c.lanes-test.true c.lane-item.is) in
    let last = last_line c.args.self.now.entries in
    for_err c.from_residual.result (AppendsFront before after (run_end c.args.self.now))
    (subst (λ (all : List ScriptLane). AppendsFront before after (end_lines 1 (map lane_end all) ++ last)) c.deref-lane-items.ensures.value
    (line_stopped lanes place lane last before mid after c.lanes-test.true c.lane-item.is numbered c.lanes.invariant.printed c.in_err-print_end.ensures.front))

pub returns-in_err-print_last-clause-front : goal.returns-in_err-print_last-clause-front
returns-in_err-print_last-clause-front g c =
    let lanes = c.deref-lane-items.result.now in
    let place = c.lanes.lane-index in
    let before = g.S.Sink.stands_for c.args.out.now in
    let mid = g.S.Sink.stands_for c.lanes.out in
    let after = g.S.Sink.stands_for c.print_last.new.out in
    let last = last_line c.args.self.now.entries in
    let all : take place lanes ≡ c.args.self.now.lanes.items = take_all place lanes c.lanes-test.false ∙ c.deref-lane-items.ensures.value in
    for_err c.from_residual-in_err-print_last.result (AppendsFront before after (run_end c.args.self.now))
    (subst (λ (these : List ScriptLane). AppendsFront before after (end_lines 1 (map lane_end these) ++ last)) all
    (appends_then_front before mid after (end_lines 1 (map lane_end (take place lanes))) last c.lanes.invariant.printed c.in_err-print_last.ensures.front))
