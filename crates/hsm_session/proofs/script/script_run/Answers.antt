use Rattle.std.proofs.Common.{◌≡◌, ◌∙◌, ◌+◌, ◌∷◌, [], List, Ok, sum_by, drop, refl, sym, ap, subst, arith}
use Rattle.std.specs.List.{AllByRecursion}
use Rattle.std.proofs.lemmas.Grind.{common_steps}
use Rattle.std.proofs.lemmas.List.{drop_all}
use Rattle.std.proofs.lemmas.List.Sums.{sum_by-cons}
use Rattle.hsm_session.specs.declared.lines.Line.{Line}
use Rattle.hsm_session.specs.Scripts.{Said}
use Rattle.hsm_session.specs.Reading.{all_said, said_of}
use Rattle.hsm_session.specs.Lanes.{IsLine, weight}
use Rattle.hsm_session.proofs.Progress.{SoFar, so_far_cut, so_far_stopped, so_far_start, so_far_next, so_far_done, so_far_known}
use Rattle.hsm_session.proofs.ReadLaws.{script_brings, script_within}
use Rattle.hsm_session.proofs.script.script_run.Goals as goal

pub lines-init : goal.lines-init
lines-init g c =
    let items = c.deref-line-items.result.now in
    let same : all_said c.in_ok-lines.lines.items ≡ all_said items = ap all_said (sym c.deref-line-items.ensures.value) in
    let within = script_within c.args.module.now.hosts c.args.script.now (all_said items) (c.in_ok-lines.ensures ∙ ap (λ (all : List Said). Ok all) same) in
    record {
      so_far = so_far_start c.args.module.now (all_said items) c.in-Ok.run' c.args.ledger.now (g.S.Sink.stands_for c.args.out.now) c.in-Ok.ensures.at c.in-Ok.ensures.entries;
      room = omega (arith, c.in-Ok.ensures.entries, c.in-Ok.ensures.held);
      lines = within.0;
      moment = omega (arith, c.in-Ok.ensures.at.moment);
      known = c.facts.ensures.known;
      cache = c.in-Ok-new.ensures;
      kept = refl;
    }

pub lines-preserved : goal.lines-preserved
lines-preserved g c =
    let m = c.args.module.now in
    let items = c.deref-line-items.result.now in
    let at = c.lines.line-index in
    let line = c.line-item.result in
    let here : drop at items ≡ line ∷ drop (at + 1) items = grind (arith, common_steps) in
    let later = all_said (drop (at + 1) items) in
    let all = all_said items in
    let before = g.S.Sink.stands_for c.args.out.now in
    let mid = g.S.Sink.stands_for c.lines.out in
    let after = g.S.Sink.stands_for c.take_line.new.out in
    let takes = c.in-Ok-take_line.ensures.takes in
    let so_far = subst (λ (left : List Line). SoFar m all (all_said left) c.lines.run c.args.ledger.now c.lines.ledger before mid) here c.lines.invariant.so_far in
    let next = so_far_next m all later (said_of line) c.lines.run c.take_line.new.self c.args.ledger.now c.lines.ledger c.take_line.new.ledger before mid after so_far takes in
    let lines = subst (λ (left : List Line). AllByRecursion (IsLine m.hosts) (all_said left)) here c.lines.invariant.lines in
    record {
      so_far = next;
      room = omega (arith, takes.spent, c.lines.invariant.room, ap (λ (left : List Line). sum_by weight (all_said left)) here, sum_by-cons weight (said_of line) later);
      lines = lines.1;
      moment = c.in-Ok-take_line.ensures.moment;
      known = so_far_known m all later c.take_line.new.self c.args.ledger.now c.take_line.new.ledger before after next c.facts.ensures.known;
      cache = c.take_line.ensures.cache;
      kept = c.in-Ok-take_line.ensures.kept ∙ c.lines.invariant.kept;
    }

pub take_line-requires-clause-line : goal.take_line-requires-clause-line
take_line-requires-clause-line g c =
    let items = c.deref-line-items.result.now in
    let at = c.lines.line-index in
    let here : drop at items ≡ c.line-item.result ∷ drop (at + 1) items = grind (arith, common_steps) in
    let lines = subst (λ (left : List Line). AllByRecursion (IsLine c.args.module.now.hosts) (all_said left)) here c.lines.invariant.lines in
    lines.0

pub take_line-requires-clause-room : goal.take_line-requires-clause-room
take_line-requires-clause-room g c =
    let items = c.deref-line-items.result.now in
    let at = c.lines.line-index in
    let line = c.line-item.result in
    let here : drop at items ≡ line ∷ drop (at + 1) items = grind (arith, common_steps) in
    let same : all_said c.in_ok-lines.lines.items ≡ all_said items = ap all_said (sym c.deref-line-items.ensures.value) in
    let within = script_within c.args.module.now.hosts c.args.script.now (all_said items) (c.in_ok-lines.ensures ∙ ap (λ (all : List Said). Ok all) same) in
    omega (
      arith,
      c.lines.invariant.room,
      ap (λ (left : List Line). sum_by weight (all_said left)) here,
      sum_by-cons weight (said_of line) (all_said (drop (at + 1) items)),
      within.1,
    )

pub returns-in-Ok-end-clause-answers : goal.returns-in-Ok-end-clause-answers
returns-in-Ok-end-clause-answers g c =
    let m = c.args.module.now in
    let items = c.deref-line-items.result.now in
    let before = g.S.Sink.stands_for c.args.out.now in
    let mid = g.S.Sink.stands_for c.lines.out in
    let none : drop c.lines.line-index items ≡ [] = drop_all c.lines.line-index items c.lines-test.false in
    let so_far = subst (λ (left : List Line). SoFar m (all_said items) (all_said left) c.lines.run c.args.ledger.now c.lines.ledger before mid) none c.lines.invariant.so_far in
    let done = so_far_done m (all_said items) c.lines.run c.in-Ok-end.over c.args.ledger.now c.lines.ledger before mid (g.S.Sink.stands_for c.end.new.out) so_far c.in-Ok-end.ensures.ends in
    let read = c.in_ok-lines.ensures ∙ ap (λ (lines : List Line). Ok (all_said lines)) (sym c.deref-line-items.ensures.value) in
    (all_said items, read, done)

pub returns-in-Err-clause-answers : goal.returns-in-Err-clause-answers
returns-in-Err-clause-answers g c =
    let m = c.args.module.now in
    let items = c.deref-line-items.result.now in
    let at = c.lines.line-index in
    let line = c.line-item.result in
    let here : drop at items ≡ line ∷ drop (at + 1) items = grind (arith, common_steps) in
    let later = all_said (drop (at + 1) items) in
    let all = all_said items in
    let before = g.S.Sink.stands_for c.args.out.now in
    let mid = g.S.Sink.stands_for c.lines.out in
    let after = g.S.Sink.stands_for c.take_line.new.out in
    let read = c.in_ok-lines.ensures ∙ ap (λ (lines : List Line). Ok (all_said lines)) (sym c.deref-line-items.ensures.value) in
    let bring = script_brings m.hosts all (script_within m.hosts c.args.script.now all read).0 in
    let so_far = subst (λ (left : List Line). SoFar m all (all_said left) c.lines.run c.args.ledger.now c.lines.ledger before mid) here c.lines.invariant.so_far in (
      all,
      read,
      so_far_stopped c.has_one_reading.ensures.some m all later (said_of line) c.lines.run c.args.ledger.now c.lines.ledger c.take_line.new.ledger before mid after bring so_far
          c.in-Err.ensures.stops,
    )

pub returns-clause-answers : goal.returns-clause-answers
returns-clause-answers g c =
    let m = c.args.module.now in
    let items = c.deref-line-items.result.now in
    let before = g.S.Sink.stands_for c.args.out.now in
    let mid = g.S.Sink.stands_for c.lines.out in
    let none : drop c.lines.line-index items ≡ [] = drop_all c.lines.line-index items c.lines-test.false in
    let so_far = subst (λ (left : List Line). SoFar m (all_said items) (all_said left) c.lines.run c.args.ledger.now c.lines.ledger before mid) none c.lines.invariant.so_far in
    let read = c.in_ok-lines.ensures ∙ ap (λ (lines : List Line). Ok (all_said lines)) (sym c.deref-line-items.ensures.value) in
    (all_said items, read, so_far_cut m (all_said items) c.lines.run c.args.ledger.now c.lines.ledger before mid (g.S.Sink.stands_for c.end.new.out) so_far c.in-Err-end.ensures.front)
