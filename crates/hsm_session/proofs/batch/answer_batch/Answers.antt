use Rattle.std.proofs.Common.{◌≡◌, ℕ, ◌≤◌, ◌++◌, All, List, length, map, drop, refl, subst, sym, ap, ◌∙◌, arith}
use Rattle.std.proofs.lemmas.Result.{err_from_is_err_and}
use Rattle.hsm_auth.specs.declared.entry.Ask.{Ask}
use Rattle.hsm_auth.specs.History.{CanAsk}
use Rattle.hsm_desk.specs.Passes.{BooksAll, with_clock}
use Rattle.hsm_frame.specs.Calls.{Held}
use Rattle.hsm_session.specs.declared.plans.Plan.{Plan}
use Rattle.hsm_session.specs.declared.serving.Count.{Count}
use Rattle.hsm_session.specs.Batches.{Prepares, StandsBehind, answers_of, frames_of}
use Rattle.hsm_session.specs.Connections.{Scene, scene_of}
use Rattle.hsm_session.specs.Plans.{plan_ask}
use Rattle.hsm_session.specs.Serving.{IsServing, holding}
use Rattle.hsm_session.proofs.Batching.{are_plans, booked_for, came_to_err, counts_seen, going_batch, may_ask}
use Rattle.hsm_session.proofs.Talking.{at_traffic, going_at, going_sends, over_write_fault}
use Rattle.hsm_session.proofs.batch.answer_batch.Goals as goal

pub book_all-requires-clause-asks : goal.book_all-requires-clause-asks
book_all-requires-clause-asks g c =
    let prepared = c.prepare_held-taken in
    let asks : c.put_asks.new.asks ≡ map plan_ask prepared.new.plans.items =
    c.put_asks.ensures ∙ ap (λ (plans : List Plan). map plan_ask plans) c.as_slice-plans.ensures.value in
    subst (λ (asks : List Ask). All CanAsk asks) (sym asks) (may_ask c.args.module.now c.args.kind c.args.tools.now.cache prepared.new.plans.items prepared.new.cache prepared.ensures.prepared)

pub answer_plans-requires-clause-plans : goal.answer_plans-requires-clause-plans
answer_plans-requires-clause-plans g c =
    let prepared = c.prepare_held-taken in
    are_plans c.args.module.now c.args.kind c.args.tools.now.cache prepared.new.plans.items c.as_slice-plans.result.now prepared.new.cache c.as_slice-plans.ensures.value prepared.ensures.prepared

pub answer_plans-requires-clause-fit : goal.answer_plans-requires-clause-fit
answer_plans-requires-clause-fit g c =
    let tools = c.args.tools.now in
    let new = c.book_all.new in
    let p = with_clock tools.pass (g.C.Clock.last tools.clock) (g.C.Clock.to_come tools.clock) in
    let q = with_clock new.pass (g.C.Clock.last new.clock) (g.C.Clock.to_come new.clock) in
    booked_for p q c.as_slice-plans.result.now new.booked (subst (λ (asks : List Ask). BooksAll p q asks new.booked) c.put_asks.ensures c.book_all.ensures.entries)

pub returns-in_err-answer_plans : goal.returns-in_err-answer_plans
returns-in_err-answer_plans g c =
    let m = c.args.module.now in
    let kind = c.args.kind in
    let tools = c.args.tools.now in
    let lane = tools.lane in
    let new = c.book_all.new in
    let traffic = g.K.Link.traffic c.args.link.now in
    let after = g.K.Link.traffic c.answer_plans.new.link in
    let prepared = c.prepare_held-taken in
    let plans = c.as_slice-plans.result.now in
    let shown = c.as_slice-plans.ensures.value in
    let rest = drop prepared.result.bytes tools.frames.bytes in
    let p = with_clock tools.pass (g.C.Clock.last tools.clock) (g.C.Clock.to_come tools.clock) in
    let q = with_clock new.pass (g.C.Clock.last new.clock) (g.C.Clock.to_come new.clock) in
    let calls = g.G.Gate.calls c.call_after.new.gate in
    let all : BooksAll p q (map plan_ask plans) new.booked = subst (λ (asks : List Ask). BooksAll p q asks new.booked) c.put_asks.ensures c.book_all.ensures.entries in
    let made : Prepares m kind tools.cache plans prepared.new.cache = subst (λ (ps : List Plan). Prepares m kind tools.cache ps prepared.new.cache) (sym shown) prepared.ensures.prepared in
    let splits : tools.frames.bytes ≡ frames_of plans ++ rest = prepared.ensures.messages ∙ ap (λ (ps : List Plan). frames_of ps ++ rest) (sym shown) in
    let few : length plans ≤ 16 = omega (arith, c.as_slice-plans.ensures.fits, c.requires.few) in
    let old = scene_of g.C.Clock.last g.C.Clock.to_come g.G.Gate.calls tools traffic in
    let now : Scene = record { pass = q.pass; last = q.last; moments = q.to_come; calls = calls; traffic = traffic; cache = prepared.new.cache } in
    let booked : (start : Scene) → IsServing m kind lane start old (holding tools.frames.bytes tools.out.items c.args.count.now)
    → IsServing m kind lane start now (holding rest (tools.out.items ++ answers_of m plans new.booked) c.count_all.new.count) = λ start begun.
    subst (λ (count : Count). IsServing m kind lane start now (holding rest (tools.out.items ++ answers_of m plans new.booked) count)) (sym c.count_all.ensures)
    (going_batch m kind lane start traffic p q (g.G.Gate.calls tools.gate) calls tools.cache prepared.new.cache plans new.booked rest tools.out.items c.args.count.now
    c.words_authorise.ensures made all few (λ told is. c.call_after.ensures _ (c.call_before.ensures told is))
    (going_at m kind lane start old tools.frames.bytes (frames_of plans ++ rest) tools.out.items c.args.count.now splits begun)) in
    let front = c.in_err-answer_plans.ensures.front in
    let failed = err_from_is_err_and c.from_residual.result c.from_residual.ensures.1 in
    record {
      answers = record {
        again = record {
          agrees = prepared.ensures.agrees;
          least = c.requires.can.least;
          counted = counts_seen p q (map plan_ask plans) new.booked c.args.count.now c.count_all.new.count all c.count_all.ensures c.requires.can.counted;
        };
        desk = c.book_all.ensures.desk;
        least = refl;
        lane = refl;
        came = came_to_err m kind _ _ c.from_residual.result failed.0 failed.1 (record {
          ends = λ start silent begun. over_write_fault c.has_one_reading.ensures.some m kind lane start _ _ _ _ silent
              (going_sends m kind lane start now after rest (tools.out.items ++ answers_of m plans new.booked) front.0 c.count_all.new.count front.1 (booked start begun));
          rose = c.in_err-answer_plans.ensures.failed.0;
          last = c.in_err-answer_plans.ensures.failed.1;
        });
      };
    }

pub returns : goal.returns
returns g c =
    let m = c.args.module.now in
    let kind = c.args.kind in
    let tools = c.args.tools.now in
    let lane = tools.lane in
    let new = c.book_all.new in
    let traffic = g.K.Link.traffic c.args.link.now in
    let after = g.K.Link.traffic c.answer_plans.new.link in
    let prepared = c.prepare_held-taken in
    let plans = c.as_slice-plans.result.now in
    let shown = c.as_slice-plans.ensures.value in
    let rest = drop prepared.result.bytes tools.frames.bytes in
    let p = with_clock tools.pass (g.C.Clock.last tools.clock) (g.C.Clock.to_come tools.clock) in
    let q = with_clock new.pass (g.C.Clock.last new.clock) (g.C.Clock.to_come new.clock) in
    let calls = g.G.Gate.calls c.call_after.new.gate in
    let all : BooksAll p q (map plan_ask plans) new.booked = subst (λ (asks : List Ask). BooksAll p q asks new.booked) c.put_asks.ensures c.book_all.ensures.entries in
    let made : Prepares m kind tools.cache plans prepared.new.cache = subst (λ (ps : List Plan). Prepares m kind tools.cache ps prepared.new.cache) (sym shown) prepared.ensures.prepared in
    let splits : tools.frames.bytes ≡ frames_of plans ++ rest = prepared.ensures.messages ∙ ap (λ (ps : List Plan). frames_of ps ++ rest) (sym shown) in
    let few : length plans ≤ 16 = omega (arith, c.as_slice-plans.ensures.fits, c.requires.few) in
    let old = scene_of g.C.Clock.last g.C.Clock.to_come g.G.Gate.calls tools traffic in
    let now : Scene = record { pass = q.pass; last = q.last; moments = q.to_come; calls = calls; traffic = traffic; cache = prepared.new.cache } in
    let booked : (start : Scene) → IsServing m kind lane start old (holding tools.frames.bytes tools.out.items c.args.count.now)
    → IsServing m kind lane start now (holding rest (tools.out.items ++ answers_of m plans new.booked) c.count_all.new.count) = λ start begun.
    subst (λ (count : Count). IsServing m kind lane start now (holding rest (tools.out.items ++ answers_of m plans new.booked) count)) (sym c.count_all.ensures)
    (going_batch m kind lane start traffic p q (g.G.Gate.calls tools.gate) calls tools.cache prepared.new.cache plans new.booked rest tools.out.items c.args.count.now
    c.words_authorise.ensures made all few (λ told is. c.call_after.ensures _ (c.call_before.ensures told is))
    (going_at m kind lane start old tools.frames.bytes (frames_of plans ++ rest) tools.out.items c.args.count.now splits begun)) in
    let skipped : rest ≡ c.skip.new.self.bytes = sym (ap (λ (h : Held). h.bytes) c.skip.ensures) in
    let least : c.skip.new.self.least ≡ tools.frames.least = ap (λ (h : Held). h.least) c.skip.ensures in
    record {
      answers = record {
        again = record {
          agrees = prepared.ensures.agrees;
          least = least ∙ c.requires.can.least;
          counted = counts_seen p q (map plan_ask plans) new.booked c.args.count.now c.count_all.new.count all c.count_all.ensures c.requires.can.counted;
        };
        desk = c.book_all.ensures.desk;
        least = least;
        lane = refl;
        came = record {
          going = λ start begun. going_at m kind lane start (at_traffic now after) rest c.skip.new.self.bytes c.answer_plans.new.out.items c.count_all.new.count skipped
              (going_sends m kind lane start now after rest (tools.out.items ++ answers_of m plans new.booked) c.answer_plans.new.out.items c.count_all.new.count c.in_ok-answer_plans.ensures.ok (booked start begun));
          behind = subst (λ (left : List ℕ). StandsBehind tools.frames.least tools.frames.bytes left prepared.result.behind) skipped prepared.ensures.behind;
          kept = c.in_ok-answer_plans.ensures.kept;
        };
      };
    }
