-- A piece whose answers were not wholly written.
use Rattle.std.proofs.Common.{◌≡◌, ℕ, List, [], ◌++◌, flat_map, Option, Some, None, refl, sym, ap, subst, ◌∙◌, append_assoc, append-nil}
use Rattle.std.specs.List.{AllByRecursion}
use Rattle.hsm_frame.specs.Frames.{Frames, frame, IsMessage, IsShort, IsTail, Short}
use Rattle.hsm_frame.specs.Calls.{Held}
use Rattle.hsm_frame.specs.Laws.{HasReading}
use Rattle.hsm_io.specs.Texts.{AppendsFront}
use Rattle.hsm_auth.specs.declared.entry.Entry.{Entry}
use Rattle.hsm_auth.specs.declared.ledger.Ledger.{Ledger}
use Rattle.hsm_rows.specs.declared.settings.Module.{Module}
use Rattle.hsm_session.specs.Booking.{answer_lines, entries_of, BooksSome}
use Rattle.hsm_session.specs.Runs.{piece_text, after_answers, short_line, closed_line}
use Rattle.hsm_session.specs.Lanes.{AreBytes, StopsDraining, StopsPiece, stream_end, lane_end}
use Rattle.hsm_session.specs.declared.lane.ScriptLane.{ScriptLane}
use Rattle.hsm_session.proofs.Answering.{each_append}
use Rattle.hsm_session.proofs.BookingLaws.{books_nothing, front_after, front_same, front_text, some_longer, some_more}
use Rattle.hsm_session.proofs.Feeding.{Feeds, is_open, short_more, text_open}
use Rattle.hsm_session.proofs.Streams.{bytes_right, frames_after, parts_joined}

-- an answer to a message of a part was not wholly written
pub stops_part : HasReading → (m : Module) (moment : ℕ) (old mid : ScriptLane) (piece part next rest : List ℕ) (answered : ℕ) (held : Held) (was between is : Ledger) (before now after : List ℕ → Type 0)
    → old.short ≡ None → piece ≡ (part ++ next) ++ rest → Feeds m moment old mid part answered was between before now
    → held ≡ record { least = mid.frames.least; bytes = mid.frames.bytes ++ next }
    → StopsDraining m mid.number moment held between is now after
    → StopsPiece m moment old piece was is before after
stops_part read m moment old mid piece part next rest answered held was between is before now after opened parts f holds d = λ fed messages bytes b.
    let k = old.number in
    let least = old.frames.least in
    let lane = is_open old fed messages opened b in
    let held_least : held.least ≡ least = ap (λ (h : Held). h.least) holds ∙ f.least in
    let split : mid.frames.bytes ++ next ≡ flat_map frame d.messages ++ d.left = sym (ap (λ (h : Held). h.bytes) holds) ∙ d.split in
    let first = parts_joined fed old.frames.bytes part mid.frames.bytes messages f.messages lane.whole f.split in
    let second = parts_joined (fed ++ part) mid.frames.bytes next d.left (messages ++ f.messages) d.messages first split in
    let all = (messages ++ f.messages) ++ d.messages in
    let left = d.left ++ rest in
    let whole : fed ++ piece ≡ flat_map frame all ++ left =
    ap (λ (more : List ℕ). fed ++ more) parts
    ∙ sym (append_assoc fed (part ++ next) rest)
    ∙ ap (λ (front : List ℕ). front ++ rest) (sym (append_assoc fed part next) ∙ second)
    ∙ append_assoc (flat_map frame all) d.left rest in
    let each = each_append least (messages ++ f.messages) d.messages (each_append least messages f.messages lane.each f.each)
    (subst (λ (n : ℕ). AllByRecursion (IsMessage n) d.messages) held_least d.each) in
    let later = read least left (bytes_right (flat_map frame all) left (subst AreBytes whole bytes)) in
    let some = f.messages ++ d.messages in
    let more = some ++ later.0 in
    let same : all ++ later.0 ≡ messages ++ more = simp append_assoc in
    let frames : Frames least (fed ++ piece) (messages ++ more) later.1 =
    subst (λ (ms : List (List ℕ)). Frames least (fed ++ piece) ms later.1) same (frames_after least (fed ++ piece) left all later.0 later.1 whole each later.2) in
    let books : BooksSome m k moment more was is before after = some_longer m k moment some later.0 was is before after
    (some_more m k moment f.messages d.messages was between is before now after f.booked
    (subst (λ (n : ℕ). BooksSome m n moment d.messages between is now after) f.number d.booked)) in
    let text : (h : List Entry) → answer_lines m k moment h more ++ after_answers k later.1 ≡ piece_text m k moment h (lane_end old) more later.1 = λ h.
    sym (text_open m k moment h old.frames.bytes more later.1)
    ∙ ap (λ (s : Option ℕ). piece_text m k moment h (stream_end s old.frames.bytes) more later.1) (sym opened) in (
      more,
      later.1,
      frames,
      λ h stands.
          front_same h _ _ _ _ is before after refl (text h) (front_text h (entries_of m moment h more) (answer_lines m k moment h more) (after_answers k later.1) is before after (books h stands)),
    )

-- that a short frame closed the lane was not wholly written
pub stops_short : (m : Module) (moment : ℕ) (old mid : ScriptLane) (piece part rest : List ℕ) (answered n : ℕ) (was is : Ledger) (before between after : List ℕ → Type 0)
    → old.short ≡ None → piece ≡ part ++ rest → Feeds m moment old mid part answered was is before between → IsShort old.frames.least n mid.frames.bytes
    → AppendsFront between after (short_line mid.number n)
    → StopsPiece m moment old piece was is before after
stops_short m moment old mid piece part rest answered n was is before between after opened parts f short printed = λ fed messages bytes b.
    let k = old.number in
    let least = old.frames.least in
    let lane = is_open old fed messages opened b in
    let first = parts_joined fed old.frames.bytes part mid.frames.bytes messages f.messages lane.whole f.split in
    let frames : Frames least (fed ++ piece) (messages ++ f.messages) (Short n) = record {
      tail = mid.frames.bytes ++ rest;
      whole =
          ap (λ (more : List ℕ). fed ++ more) parts ∙ sym (append_assoc fed part rest) ∙ ap (λ (front : List ℕ). front ++ rest) first
          ∙ append_assoc (flat_map frame (messages ++ f.messages)) mid.frames.bytes rest;
      each = each_append least messages f.messages lane.each f.each;
      ends = short_more least n mid.frames.bytes rest short;
    } in
    let text : (h : List Entry) → answer_lines m k moment h f.messages ++ short_line k n ≡ piece_text m k moment h (lane_end old) f.messages (Short n) = λ h.
    sym (text_open m k moment h old.frames.bytes f.messages (Short n))
    ∙ ap (λ (s : Option ℕ). piece_text m k moment h (stream_end s old.frames.bytes) f.messages (Short n)) (sym opened) in
    let printed_there : AppendsFront between after (short_line k n) = subst (λ (j : ℕ). AppendsFront between after (short_line j n)) f.number printed in (
      f.messages,
      Short n,
      frames,
      λ h stands.
          front_same h _ _ _ _ is before after refl (text h) (front_after h (entries_of m moment h f.messages) (answer_lines m k moment h f.messages) (short_line k n) is before between after (f.booked h stands) printed_there),
    )

-- that a lane is closed was not wholly written
pub stops_closed : (m : Module) (moment : ℕ) (old : ScriptLane) (piece : List ℕ) (n : ℕ) (was : Ledger) (before after : List ℕ → Type 0)
    → old.short ≡ Some n → AppendsFront before after (closed_line old.number) → StopsPiece m moment old piece was was before after
stops_closed m moment old piece n was before after closed printed = λ fed messages bytes b.
    let k = old.number in
    let least = old.frames.least in
    let frames : Frames least (fed ++ piece) (messages ++ []) (Short n) = record {
      tail = b.tail ++ piece;
      whole =
          ap (λ (front : List ℕ). front ++ piece) b.whole ∙ append_assoc (flat_map frame messages) b.tail piece
          ∙ ap (λ (all : List (List ℕ)). flat_map frame all ++ (b.tail ++ piece)) (sym (append-nil messages));
      each = subst (AllByRecursion (IsMessage least)) (sym (append-nil messages)) b.each;
      ends = short_more least n b.tail piece (subst (λ (s : Option ℕ). IsTail least (stream_end s old.frames.bytes) b.tail) closed b.ends);
    } in
    let text : (h : List Entry) → closed_line k ≡ piece_text m k moment h (lane_end old) [] (Short n) = λ h.
    ap (λ (s : Option ℕ). piece_text m k moment h (stream_end s old.frames.bytes) [] (Short n)) (sym closed) in (
      [],
      Short n,
      frames,
      λ h stands.
          front_same h [] [] _ _ was before after refl (text h) (front_after h [] [] (closed_line k) was before before after (books_nothing h was before stands) printed),
    )
