use Rattle.std.proofs.Common.{[], ◌≡◌, ◌∙◌, ◌+◌, ◌++◌, ℕ, List, take, arith, refl, sym, ap, subst}
use Rattle.hsm_frame.specs.Calls.{Held, IsNotYet}
use Rattle.hsm_frame.specs.Frames.{IsShort}
use Rattle.hsm_session.specs.declared.lane.ScriptLane.{ScriptLane}
use Rattle.hsm_session.specs.Runs.{closed_line}
use Rattle.hsm_session.proofs.Feeding.{Feeds, feeds_none, feeds_more, feeds_piece, feeds_short, feeds_closed, parted, all_parted}
use Rattle.hsm_session.proofs.BookingLaws.{for_err, still_known}
use Rattle.hsm_session.specs.Lanes.{StopsPiece}
use Rattle.hsm_session.proofs.Stopping.{stops_closed, stops_part, stops_short}
use Rattle.hsm_session.proofs.lane.ScriptLane.take_piece.Goals as goal

pub returns-in-Some-clause-feeds : goal.returns-in-Some-clause-feeds
unfolding closed_line
returns-in-Some-clause-feeds g c =
    feeds_closed c.args.module.now c.args.moment c.args.self.now c.args.piece.now c.in-Some.field-0 c.args.ledger.now (g.S.Sink.stands_for c.args.out.now) (g.S.Sink.stands_for c.print_words.new.out)
    c.in-Some.is c.in_ok-print_words.ensures.ok

pub returns-in-Some-short-clause-feeds : goal.returns-in-Some-short-clause-feeds
returns-in-Some-short-clause-feeds g c =
    let m = c.args.module.now in
    let moment = c.args.moment in
    let before = g.S.Sink.stands_for c.args.out.now in
    let taken = c.feed-taken.result in
    let mid : ScriptLane = record {
      number = c.chunks.self.number;
      frames = c.answer_held.new.frames;
      short = c.chunks.self.short;
    } in
    let fed = c.chunks.invariant.fed in
    let drained = c.in_ok-drained.drained in
    let drains = c.in_ok-drained.ensures.drains in
    let feeds : Feeds m moment c.args.self.now mid (fed.0 ++ take taken c.chunks.rest.now) (c.chunks.answered + drained.answered)
    c.args.ledger.now c.answer_held.new.ledger before (g.S.Sink.stands_for c.answer_held.new.out) =
    feeds_more m moment c.args.self.now c.chunks.self mid fed.0 (take taken c.chunks.rest.now) c.chunks.answered c.feed-taken.new.self c.answer_held.new.frames
    c.args.ledger.now c.chunks.ledger c.answer_held.new.ledger before
    (g.S.Sink.stands_for c.chunks.out) (g.S.Sink.stands_for c.answer_held.new.out) drained fed.2 c.feed-taken.ensures.held drains refl refl in
    let least : c.feed-taken.new.self.least ≡ c.args.self.now.frames.least = ap (λ (h : Held). h.least) c.feed-taken.ensures.held ∙ fed.2.least in
    let short = rw c.in-Some-short.is at drains.ends in
    feeds_short m moment c.args.self.now mid _ c.args.piece.now (fed.0 ++ take taken c.chunks.rest.now) _ (c.chunks.answered + drained.answered) c.in-Some-short.length
    c.args.ledger.now c.answer_held.new.ledger before
    (g.S.Sink.stands_for c.answer_held.new.out) (g.S.Sink.stands_for c.print_short.new.out) (c.in_default.is) (parted c.args.piece.now fed.0 c.chunks.rest.now taken fed.1)
    feeds (subst (λ (n : ℕ). IsShort n c.in-Some-short.length c.answer_held.new.frames.bytes) least short) c.in-Some-short.is refl c.reset.ensures c.in_ok-print_short.ensures.ok

pub chunks-init : goal.chunks-init
chunks-init g c = record {
  is_open = c.in_default.is;
  room = c.requires.held;
  fed = ([], refl, feeds_none c.args.module.now c.args.moment c.args.self.now c.args.ledger.now (g.S.Sink.stands_for c.args.out.now));
  waits = λ before. before;
  known = c.requires.known;
  cache = c.requires.cache;
  kept = refl;
}

pub chunks-preserved : goal.chunks-preserved
chunks-preserved g c =
    let m = c.args.module.now in
    let moment = c.args.moment in
    let taken = c.feed-taken.result in
    let fed = c.chunks.invariant.fed in
    let drains = c.in_ok-drained.ensures.drains in
    let least : c.feed-taken.new.self.least ≡ c.args.self.now.frames.least = ap (λ (h : Held). h.least) c.feed-taken.ensures.held ∙ fed.2.least in
    let waiting = rw c.in_default-short.is at drains.ends in
    record {
      is_open = c.chunks.invariant.is_open;
      room = waiting.room;
      fed = (
        fed.0 ++ take taken c.chunks.rest.now,
        parted c.args.piece.now fed.0 c.chunks.rest.now taken fed.1,
        feeds_more m moment c.args.self.now c.chunks.self _ fed.0 (take taken c.chunks.rest.now) c.chunks.answered c.feed-taken.new.self c.answer_held.new.frames
            c.args.ledger.now c.chunks.ledger c.answer_held.new.ledger (g.S.Sink.stands_for c.args.out.now)
            (g.S.Sink.stands_for c.chunks.out) (g.S.Sink.stands_for c.answer_held.new.out) c.in_ok-drained.drained fed.2 c.feed-taken.ensures.held drains refl refl,
      );
      waits = λ before. subst (λ (n : ℕ). IsNotYet n c.answer_held.new.frames.bytes) least waiting.no_message;
      known = still_known m c.chunks.self.number moment drains.messages c.chunks.ledger c.answer_held.new.ledger (g.S.Sink.stands_for c.chunks.out) (g.S.Sink.stands_for c.answer_held.new.out)
          drains.booked c.chunks.invariant.known;
      cache = c.answer_held.ensures.cache;
      kept = c.in_ok-drained.ensures.kept ∙ c.chunks.invariant.kept;
    }

pub returns-clause-feeds : goal.returns-clause-feeds
returns-clause-feeds g c =
    let fed = c.chunks.invariant.fed in
    let whole : c.args.piece.now ≡ fed.0 = all_parted c.args.piece.now fed.0 c.chunks.rest.now fed.1 (grind arith) in
    let m = c.args.module.now in
    let moment = c.args.moment in
    feeds_piece m moment c.args.self.now c.chunks.self c.args.piece.now c.chunks.answered c.args.ledger.now c.chunks.ledger (g.S.Sink.stands_for c.args.out.now) (g.S.Sink.stands_for c.chunks.out)
    c.in_default.is c.chunks.invariant.is_open
    (subst (λ (part : List ℕ). Feeds m moment c.args.self.now c.chunks.self part c.chunks.answered c.args.ledger.now c.chunks.ledger (g.S.Sink.stands_for c.args.out.now) (g.S.Sink.stands_for c.chunks.out)) (sym whole) fed.2)
    c.chunks.invariant.waits c.chunks.invariant.room

pub returns-in_err-print_words-clause-stops : goal.returns-in_err-print_words-clause-stops
unfolding closed_line
returns-in_err-print_words-clause-stops g c =
    let before = g.S.Sink.stands_for c.args.out.now in
    let after = g.S.Sink.stands_for c.print_words.new.out in
    for_err c.from_residual.result (StopsPiece c.args.module.now c.args.moment c.args.self.now c.args.piece.now c.args.ledger.now c.args.ledger.now before after)
    (stops_closed c.args.module.now c.args.moment c.args.self.now c.args.piece.now c.in-Some.field-0 c.args.ledger.now before after c.in-Some.is c.in_err-print_words.ensures.front)

pub returns-in_err-drained-clause-stops : goal.returns-in_err-drained-clause-stops
returns-in_err-drained-clause-stops g c =
    let m = c.args.module.now in
    let moment = c.args.moment in
    let before = g.S.Sink.stands_for c.args.out.now in
    let after = g.S.Sink.stands_for c.answer_held.new.out in
    let taken = c.feed-taken.result in
    let fed = c.chunks.invariant.fed in
    for_err c.from_residual-in_err-drained.result (StopsPiece m moment c.args.self.now c.args.piece.now c.args.ledger.now c.answer_held.new.ledger before after)
    (stops_part c.has_one_reading.ensures.some m moment c.args.self.now c.chunks.self c.args.piece.now fed.0 (take taken c.chunks.rest.now) _ c.chunks.answered c.feed-taken.new.self
    c.args.ledger.now c.chunks.ledger c.answer_held.new.ledger before (g.S.Sink.stands_for c.chunks.out) after
    c.in_default.is (parted c.args.piece.now fed.0 c.chunks.rest.now taken fed.1) fed.2 c.feed-taken.ensures.held c.in_err-drained.ensures.stops)

pub returns-in_err-print_short-clause-stops : goal.returns-in_err-print_short-clause-stops
returns-in_err-print_short-clause-stops g c =
    let m = c.args.module.now in
    let moment = c.args.moment in
    let before = g.S.Sink.stands_for c.args.out.now in
    let after = g.S.Sink.stands_for c.print_short.new.out in
    let taken = c.feed-taken.result in
    let mid : ScriptLane = record {
      number = c.chunks.self.number;
      frames = c.answer_held.new.frames;
      short = c.chunks.self.short;
    } in
    let fed = c.chunks.invariant.fed in
    let drained = c.in_ok-drained.drained in
    let drains = c.in_ok-drained.ensures.drains in
    let feeds : Feeds m moment c.args.self.now mid (fed.0 ++ take taken c.chunks.rest.now) (c.chunks.answered + drained.answered)
    c.args.ledger.now c.answer_held.new.ledger before (g.S.Sink.stands_for c.answer_held.new.out) =
    feeds_more m moment c.args.self.now c.chunks.self mid fed.0 (take taken c.chunks.rest.now) c.chunks.answered c.feed-taken.new.self c.answer_held.new.frames
    c.args.ledger.now c.chunks.ledger c.answer_held.new.ledger before
    (g.S.Sink.stands_for c.chunks.out) (g.S.Sink.stands_for c.answer_held.new.out) drained fed.2 c.feed-taken.ensures.held drains refl refl in
    let least : c.feed-taken.new.self.least ≡ c.args.self.now.frames.least = ap (λ (h : Held). h.least) c.feed-taken.ensures.held ∙ fed.2.least in
    let short = rw c.in-Some-short.is at drains.ends in
    for_err c.from_residual-in_err-print_short.result (StopsPiece m moment c.args.self.now c.args.piece.now c.args.ledger.now c.answer_held.new.ledger before after)
    (stops_short m moment c.args.self.now mid c.args.piece.now (fed.0 ++ take taken c.chunks.rest.now) _ (c.chunks.answered + drained.answered) c.in-Some-short.length
    c.args.ledger.now c.answer_held.new.ledger before (g.S.Sink.stands_for c.answer_held.new.out) after
    c.in_default.is (parted c.args.piece.now fed.0 c.chunks.rest.now taken fed.1) feeds
    (subst (λ (n : ℕ). IsShort n c.in-Some-short.length c.answer_held.new.frames.bytes) least short) c.in_err-print_short.ensures.front)
