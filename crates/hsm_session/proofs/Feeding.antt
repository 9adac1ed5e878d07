-- A piece that is fed in parts.
use Rattle.std.proofs.Common.{◌≡◌, ℕ, ◌+◌, ◌-◌, ◌≤◌, ◌<◌, List, [], ◌∷◌, ◌++◌, length, take, drop, flat_map, Option, Some, None, refl, sym, ap, subst, ◌∙◌, append_assoc, append-nil, length-append, arith}
use Rattle.std.specs.List.{AllByRecursion}
use Rattle.std.proofs.lemmas.Grind.{flat_map-append}
use Rattle.std.proofs.lemmas.List.{take-append-drop, take_rest}
use Rattle.hsm_frame.specs.Frames.{frame, IsMessage, IsShort, IsTail, StreamEnd}
use Rattle.hsm_frame.specs.Calls.{Held, IsNotYet}
use Rattle.hsm_io.specs.Texts.{Appends}
use Rattle.hsm_io.proofs.TextLemmas.{appends_twice}
use Rattle.hsm_auth.specs.declared.entry.Entry.{Entry}
use Rattle.hsm_auth.specs.declared.ledger.Ledger.{Ledger}
use Rattle.hsm_rows.specs.declared.settings.Module.{Module}
use Rattle.hsm_session.specs.Booking.{answer_lines, IsBooked, BooksAll}
use Rattle.hsm_session.specs.Runs.{piece_text, after_answers, short_line, closed_line}
use Rattle.hsm_session.specs.Lanes.{Drains, IsBehind, FeedsPiece, stream_end, lane_end}
use Rattle.hsm_session.specs.declared.lane.ScriptLane.{ScriptLane}
use Rattle.hsm_session.specs.declared.lane.Drained.{Drained}
use Rattle.hsm_session.proofs.Answering.{each_append}
use Rattle.hsm_session.proofs.BookingLaws.{books_none, books_nothing, books_twice}

-- A part of a piece was fed to an open lane and its messages were booked and answered. The lane is open, and waits.
pub record Feeds (m : Module) (moment : ℕ) (old new : ScriptLane) (part : List ℕ) (answered : ℕ) (was is : Ledger) (before after : List ℕ → Type 0) : Type 0 where
  pub messages : List (List ℕ)
  pub split : old.frames.bytes ++ part ≡ flat_map frame messages ++ new.frames.bytes
  pub each : AllByRecursion (IsMessage old.frames.least) messages
  pub number : new.number ≡ old.number
  pub least : new.frames.least ≡ old.frames.least
  pub booked : BooksAll m old.number moment messages was is before after
  pub count : answered ≡ length messages
  pub spent : answered + length new.frames.bytes ≤ length old.frames.bytes + length part

pub feeds_none : (m : Module) (moment : ℕ) (old : ScriptLane) (was : Ledger) (before : List ℕ → Type 0) → Feeds m moment old old [] 0 was was before before
feeds_none m moment old was before = record {
  messages = [];
  split = append-nil old.frames.bytes;
  each = tt;
  number = refl;
  least = refl;
  booked = books_none m old.number moment was before;
  count = refl;
  spent = omega arith;
}

-- one more part
pub feeds_more : (m : Module) (moment : ℕ) (old mid new : ScriptLane) (part next : List ℕ) (answered : ℕ) (fed left : Held) (was between is : Ledger) (before now after : List ℕ → Type 0) (drained : Drained)
    → Feeds m moment old mid part answered was between before now
    → fed ≡ record { least = mid.frames.least; bytes = mid.frames.bytes ++ next }
    → Drains m mid.number moment fed left between is now after drained
    → new.frames ≡ left → new.number ≡ mid.number
    → Feeds m moment old new (part ++ next) (answered + drained.answered) was is before after
feeds_more m moment old mid new part next answered fed left was between is before now after drained f held d same numbered =
    let fed_bytes : fed.bytes ≡ mid.frames.bytes ++ next = ap (λ (h : Held). h.bytes) held in
    let fed_least : fed.least ≡ mid.frames.least = ap (λ (h : Held). h.least) held in
    let new_bytes : new.frames.bytes ≡ left.bytes = ap (λ (h : Held). h.bytes) same in
    let split : mid.frames.bytes ++ next ≡ flat_map frame d.messages ++ new.frames.bytes =
    sym fed_bytes ∙ d.split ∙ ap (λ (rest : List ℕ). flat_map frame d.messages ++ rest) (sym new_bytes) in
    record {
      messages = f.messages ++ d.messages;
      split =
          sym (append_assoc old.frames.bytes part next)
          ∙ ap (λ (bytes : List ℕ). bytes ++ next) f.split
          ∙ append_assoc (flat_map frame f.messages) mid.frames.bytes next
          ∙ ap (λ (rest : List ℕ). flat_map frame f.messages ++ rest) split
          ∙ sym (append_assoc (flat_map frame f.messages) (flat_map frame d.messages) new.frames.bytes)
          ∙ ap (λ (front : List ℕ). front ++ new.frames.bytes) (sym (flat_map-append frame f.messages d.messages));
      each = each_append old.frames.least f.messages d.messages f.each
          (subst (λ (n : ℕ). AllByRecursion (IsMessage n) d.messages) (fed_least ∙ f.least) d.each);
      number = numbered ∙ f.number;
      least = ap (λ (h : Held). h.least) same ∙ d.least ∙ fed_least ∙ f.least;
      booked = books_twice m old.number moment f.messages d.messages was between is before now after f.booked
          (subst (λ (n : ℕ). BooksAll m n moment d.messages between is now after) f.number d.booked);
      count = omega (arith, f.count, d.count, length-append f.messages d.messages);
      spent = omega (arith, d.spent, f.spent, length-append part next, ap length fed_bytes ∙ length-append mid.frames.bytes next, ap length new_bytes);
    }

-- what is held of an open lane's stream, as its tail
pub waits_at_tail : (least : ℕ) (held : List ℕ) → IsTail least (stream_end None held) held → IsNotYet least held
waits_at_tail least [] ends = tt
waits_at_tail least (byte ∷ held) ends = ends

pub tail_waits : (least : ℕ) (held : List ℕ) → IsNotYet least held → IsTail least (stream_end None held) held
tail_waits least [] waits = refl
tail_waits least (byte ∷ held) waits = waits

pub short_more : (least n : ℕ) (held more : List ℕ) → IsShort least n held → IsShort least n (held ++ more)
short_more least n [] more short = absurd short
short_more least n (high ∷ []) more short = absurd short
short_more least n (high ∷ low ∷ rest) more short = short

pub text_open : (m : Module) (lane moment : ℕ) (h : List Entry) (held : List ℕ) (messages : List (List ℕ)) (after : StreamEnd)
    → piece_text m lane moment h (stream_end None held) messages after ≡ answer_lines m lane moment h messages ++ after_answers lane after
text_open m lane moment h [] messages after = refl
text_open m lane moment h (byte ∷ held) messages after = refl

-- booked messages, and what more is printed after them
books_text : (h more : List Entry) (text next whole : List ℕ) (ledger : Ledger) (before between after : List ℕ → Type 0)
    → IsBooked h more text ledger before between → Appends between after next → text ++ next ≡ whole → IsBooked h more whole ledger before after
books_text h more text next whole ledger before between after b printed is = record {
  stands = b.stands;
  legal = b.legal;
  printed = subst (Appends before after) is (appends_twice before between after text next b.printed printed);
}

appends_nothing : (at : List ℕ → Type 0) → Appends at at []
appends_nothing at = λ base b. subst at (sym (append-nil base)) b

pub nothing_after : (lane : ℕ) (held : List ℕ) → after_answers lane (stream_end None held) ≡ []
nothing_after lane [] = refl
nothing_after lane (byte ∷ held) = refl

-- a lane whose stream these bytes are, by what is held
pub record IsOpen (lane : ScriptLane) (fed : List ℕ) (messages : List (List ℕ)) : Type 0 where
  pub whole : fed ≡ flat_map frame messages ++ lane.frames.bytes
  pub each : AllByRecursion (IsMessage lane.frames.least) messages
  pub waits : IsNotYet lane.frames.least lane.frames.bytes

pub is_open : (lane : ScriptLane) (fed : List ℕ) (messages : List (List ℕ)) → lane.short ≡ None → IsBehind lane fed messages → IsOpen lane fed messages
is_open lane fed messages none b =
    let tail = b.held none in
    record {
      whole = b.whole ∙ ap (λ (rest : List ℕ). flat_map frame messages ++ rest) tail;
      each = b.each;
      waits = waits_at_tail lane.frames.least lane.frames.bytes
          (subst (λ (s : Option ℕ). IsTail lane.frames.least (stream_end s lane.frames.bytes) lane.frames.bytes) none
          (subst (IsTail lane.frames.least (stream_end lane.short lane.frames.bytes)) tail b.ends));
    }

-- the messages of a stream and those of a part that follows it
joined : (old mid : ScriptLane) (fed part : List ℕ) (messages more : List (List ℕ)) → fed ≡ flat_map frame messages ++ old.frames.bytes
    → old.frames.bytes ++ part ≡ flat_map frame more ++ mid.frames.bytes
    → fed ++ part ≡ flat_map frame (messages ++ more) ++ mid.frames.bytes
joined old mid fed part messages more whole split =
    ap (λ (front : List ℕ). front ++ part) whole
    ∙ append_assoc (flat_map frame messages) old.frames.bytes part
    ∙ ap (λ (rest : List ℕ). flat_map frame messages ++ rest) split
    ∙ sym (append_assoc (flat_map frame messages) (flat_map frame more) mid.frames.bytes)
    ∙ ap (λ (front : List ℕ). front ++ mid.frames.bytes) (sym (flat_map-append frame messages more))

-- a whole piece was fed, and the lane is open
pub feeds_piece : (m : Module) (moment : ℕ) (old new : ScriptLane) (piece : List ℕ) (answered : ℕ) (was is : Ledger) (before after : List ℕ → Type 0)
    → old.short ≡ None → new.short ≡ None → Feeds m moment old new piece answered was is before after
    → (IsNotYet old.frames.least old.frames.bytes → IsNotYet old.frames.least new.frames.bytes) → length new.frames.bytes < 65537
    → FeedsPiece m moment old new piece answered was is before after
feeds_piece m moment old new piece answered was is before after opened stays f waits room = record {
  number = f.number;
  least = f.least;
  spent = f.spent;
  answers = λ fed messages b.
      let lane = is_open old fed messages opened b in
      let ends = tail_waits old.frames.least new.frames.bytes (waits lane.waits) in
      let n = old.number in
      let text : (h : List Entry) → answer_lines m n moment h f.messages ++ [] ≡ piece_text m n moment h (lane_end old) f.messages (lane_end new) = λ h.
      ap (λ (more : List ℕ). answer_lines m n moment h f.messages ++ more)
      (sym (nothing_after n new.frames.bytes) ∙ ap (λ (s : Option ℕ). after_answers n (stream_end s new.frames.bytes)) (sym stays))
      ∙ sym (text_open m n moment h old.frames.bytes f.messages (lane_end new))
      ∙ ap (λ (s : Option ℕ). piece_text m n moment h (stream_end s old.frames.bytes) f.messages (lane_end new)) (sym opened) in
      let behind : IsBehind new (fed ++ piece) (messages ++ f.messages) = record {
        tail = new.frames.bytes;
        whole = joined old new fed piece messages f.messages lane.whole f.split;
        each = subst (λ (n : ℕ). AllByRecursion (IsMessage n) (messages ++ f.messages)) (sym f.least)
            (each_append old.frames.least messages f.messages lane.each f.each);
        ends = subst (λ (n : ℕ). IsTail n (lane_end new) new.frames.bytes) (sym f.least)
            (subst (λ (s : Option ℕ). IsTail old.frames.least (stream_end s new.frames.bytes) new.frames.bytes) (sym stays) ends);
        held = λ none. refl;
        room = room;
      } in
      (f.messages, behind, f.count, λ h stands. books_text h _ _ [] _ is before after after (f.booked h stands) (appends_nothing after) (text h));
}

-- a part of a piece was fed, and then a short frame closed the lane
pub feeds_short : (m : Module) (moment : ℕ) (old mid new : ScriptLane) (piece part rest : List ℕ) (answered n : ℕ) (was is : Ledger) (before between after : List ℕ → Type 0)
    → old.short ≡ None → piece ≡ part ++ rest → Feeds m moment old mid part answered was is before between → IsShort old.frames.least n mid.frames.bytes
    → new.short ≡ Some n → new.number ≡ mid.number → new.frames ≡ record { least = mid.frames.least; bytes = [] } → Appends between after (short_line mid.number n)
    → FeedsPiece m moment old new piece answered was is before after
feeds_short m moment old mid new piece part rest answered n was is before between after opened parts f short closed numbered cleared printed =
    let least : new.frames.least ≡ old.frames.least = ap (λ (h : Held). h.least) cleared ∙ f.least in
    let bytes : new.frames.bytes ≡ [] = ap (λ (h : Held). h.bytes) cleared in
    let k = old.number in
    record {
      number = numbered ∙ f.number;
      least = least;
      spent = omega (arith, f.spent, ap length bytes, ap length parts ∙ length-append part rest);
      answers = λ fed messages b.
          let lane = is_open old fed messages opened b in
          let text : (h : List Entry) → answer_lines m k moment h f.messages ++ short_line k n ≡ piece_text m k moment h (lane_end old) f.messages (lane_end new) = λ h.
          ap (λ (s : Option ℕ). answer_lines m k moment h f.messages ++ after_answers k (stream_end s new.frames.bytes)) (sym closed)
          ∙ sym (text_open m k moment h old.frames.bytes f.messages (lane_end new))
          ∙ ap (λ (s : Option ℕ). piece_text m k moment h (stream_end s old.frames.bytes) f.messages (lane_end new)) (sym opened) in
          let behind : IsBehind new (fed ++ piece) (messages ++ f.messages) = record {
            tail = mid.frames.bytes ++ rest;
            whole =
                ap (λ (more : List ℕ). fed ++ more) parts
                ∙ sym (append_assoc fed part rest)
                ∙ ap (λ (front : List ℕ). front ++ rest) (joined old mid fed part messages f.messages lane.whole f.split)
                ∙ append_assoc (flat_map frame (messages ++ f.messages)) mid.frames.bytes rest;
            each = subst (λ (k : ℕ). AllByRecursion (IsMessage k) (messages ++ f.messages)) (sym least)
                (each_append old.frames.least messages f.messages lane.each f.each);
            ends = subst (λ (k : ℕ). IsTail k (lane_end new) (mid.frames.bytes ++ rest)) (sym least)
                (subst (λ (s : Option ℕ). IsTail old.frames.least (stream_end s new.frames.bytes) (mid.frames.bytes ++ rest)) (sym closed)
                (short_more old.frames.least n mid.frames.bytes rest short));
            held = λ none. absurd (cc);
            room = omega (arith, ap length bytes);
          } in
          let printed_there : Appends between after (short_line k n) = subst (λ (j : ℕ). Appends between after (short_line j n)) f.number printed in
          (f.messages, behind, f.count, λ h stands. books_text h _ _ (short_line k n) _ is before between after (f.booked h stands) printed_there (text h));
    }

-- a piece came after a short frame had closed the lane
pub feeds_closed : (m : Module) (moment : ℕ) (old : ScriptLane) (piece : List ℕ) (n : ℕ) (was : Ledger) (before after : List ℕ → Type 0)
    → old.short ≡ Some n → Appends before after (closed_line old.number) → FeedsPiece m moment old old piece 0 was was before after
feeds_closed m moment old piece n was before after closed printed = record {
  number = refl;
  least = refl;
  spent = omega arith;
  answers = λ fed messages b.
      let k = old.number in
      let text : (h : List Entry) → closed_line k ≡ piece_text m k moment h (lane_end old) [] (lane_end old) = λ h.
      ap (λ (s : Option ℕ). piece_text m k moment h (stream_end s old.frames.bytes) [] (lane_end old)) (sym closed) in
      let behind : IsBehind old (fed ++ piece) (messages ++ []) = record {
        tail = b.tail ++ piece;
        whole =
            ap (λ (front : List ℕ). front ++ piece) b.whole ∙ append_assoc (flat_map frame messages) b.tail piece
            ∙ ap (λ (all : List (List ℕ)). flat_map frame all ++ (b.tail ++ piece)) (sym (append-nil messages));
        each = subst (AllByRecursion (IsMessage old.frames.least)) (sym (append-nil messages)) b.each;
        ends = subst (λ (s : Option ℕ). IsTail old.frames.least (stream_end s old.frames.bytes) (b.tail ++ piece)) (sym closed)
            (short_more old.frames.least n b.tail piece
            (subst (λ (s : Option ℕ). IsTail old.frames.least (stream_end s old.frames.bytes) b.tail) closed b.ends));
        held = λ none. absurd (cc);
        room = b.room;
      } in
      ([], behind, refl, λ h stands. books_text h [] [] (closed_line k) _ was before before after (books_nothing h was before stands) printed (text h));
}

-- one more part of a piece
pub parted : (piece part rest : List ℕ) (n : ℕ) → piece ≡ part ++ rest → piece ≡ (part ++ take n rest) ++ take (length rest - n) (drop n rest)
parted piece part rest n e =
    e ∙ ap (λ (more : List ℕ). part ++ more) (sym (take-append-drop n rest)) ∙ sym (append_assoc part (take n rest) (drop n rest))
    ∙ ap (λ (more : List ℕ). (part ++ take n rest) ++ more) (sym (take_rest rest n))

-- the last part of a piece
pub all_parted : (piece part rest : List ℕ) → piece ≡ part ++ rest → length rest ≡ 0 → piece ≡ part
all_parted piece part [] e none = e ∙ append-nil part
all_parted piece part (byte ∷ rest) e none = absurd (omega arith)
