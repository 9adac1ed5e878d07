-- A piece that is cut in two.
use Rattle.std.proofs.Common.{◌≡◌, ℕ, ◌==◌, if◌then◌else◌, Bool, true, false, List, [], ◌∷◌, ◌++◌, flat_map, refl, sym, ap, subst, ◌∙◌, append_assoc, append-nil}
use Rattle.std.proofs.lemmas.List.{append_cancel_left}
use Rattle.hsm_frame.specs.Frames.{Frames, StreamEnd, Whole, Part, Short, frame}
use Rattle.hsm_frame.specs.Laws.{HasOneReading}
use Rattle.hsm_auth.specs.declared.entry.Entry.{Entry}
use Rattle.hsm_rows.specs.declared.settings.Module.{Module}
use Rattle.hsm_session.specs.declared.script.ScriptEnd.{ScriptEnd}
use Rattle.hsm_answers.specs.Messages.{least_length}
use Rattle.hsm_session.specs.Booking.{answer_lines, entries_of}
use Rattle.hsm_session.specs.Cuts.{IsOpen}
use Rattle.hsm_session.specs.Scripts.{Said, Piece}
use Rattle.hsm_session.specs.Runs.{IsRunOfLines, IsRunOfLine, IsRunOf, after_answers, brought, end_lines, got, is_short, last_line, moment_at, piece_text}
use Rattle.hsm_session.proofs.BookingLaws.{entries_twice, lines_twice}
use Rattle.hsm_session.proofs.Feeding.{short_more}
use Rattle.hsm_session.proofs.OneRun.{AreAlike, alike, alike_more, same_line, same_lines, told_counts}
use Rattle.hsm_session.proofs.Running.{brought_here, got_more, moment_more}

-- a piece brings what its two parts bring
brought_both : (lane to : ℕ) (first second : List ℕ) → brought lane (Piece to (first ++ second)) ≡ brought lane (Piece to first) ++ brought lane (Piece to second)
brought_both lane to first second = go (to == lane)
  where
    go : (test : Bool) → (if test then first ++ second else []) ≡ (if test then first else []) ++ (if test then second else [])
    go true = refl
    go false = refl

alike_cut : (before : List Said) (lane : ℕ) (first second : List ℕ)
    → AreAlike (before ++ Piece lane (first ++ second) ∷ []) ((before ++ Piece lane first ∷ []) ++ Piece lane second ∷ [])
alike_cut before lane first second =
    let one = before ++ Piece lane first ∷ [] in
    record {
      bytes = λ other.
          got_more other before (Piece lane (first ++ second))
          ∙ ap (λ (bytes : List ℕ). got other before ++ bytes) (brought_both other lane first second)
          ∙ sym (append_assoc (got other before) (brought other (Piece lane first)) (brought other (Piece lane second)))
          ∙ ap (λ (bytes : List ℕ). bytes ++ brought other (Piece lane second)) (sym (got_more other before (Piece lane first)))
          ∙ sym (got_more other one (Piece lane second));
      moment =
          moment_more 0 before (Piece lane (first ++ second))
          ∙ sym (moment_more 0 one (Piece lane second) ∙ moment_more 0 before (Piece lane first));
    }

-- what follows is the same
alike_longer : (some others later : List Said) → AreAlike some others → AreAlike (some ++ later) (others ++ later)
alike_longer some others [] a = subst (λ (lines : List Said). AreAlike lines (others ++ [])) (sym (append-nil some)) (subst (λ (lines : List Said). AreAlike some lines) (sym (append-nil others)) a)
alike_longer some others (line ∷ later) a =
    subst (λ (lines : List Said). AreAlike lines (others ++ line ∷ later)) (append_assoc some (line ∷ []) later)
    (subst (λ (lines : List Said). AreAlike ((some ++ line ∷ []) ++ later) lines) (append_assoc others (line ∷ []) later)
    (alike_longer (some ++ line ∷ []) (others ++ line ∷ []) later (alike_more some others line a)))

alike_whole : (earlier later : List Said) (lane : ℕ) (first second : List ℕ)
    → AreAlike (earlier ++ Piece lane (first ++ second) ∷ later) (earlier ++ Piece lane first ∷ Piece lane second ∷ later)
alike_whole earlier later lane first second =
    let one = Piece lane first in
    let two = Piece lane second in
    let joined = Piece lane (first ++ second) in
    let cut : ((earlier ++ one ∷ []) ++ two ∷ []) ++ later ≡ earlier ++ one ∷ two ∷ later =
    append_assoc (earlier ++ one ∷ []) (two ∷ []) later ∙ append_assoc earlier (one ∷ []) (two ∷ later) in
    subst (λ (lines : List Said). AreAlike lines (earlier ++ one ∷ two ∷ later)) (append_assoc earlier (joined ∷ []) later)
    (subst (λ (lines : List Said). AreAlike ((earlier ++ joined ∷ []) ++ later) lines) cut
    (alike_longer (earlier ++ joined ∷ []) ((earlier ++ one ∷ []) ++ two ∷ []) later (alike_cut earlier lane first second)))

-- the messages of a piece are those of its parts
cut_messages : HasOneReading → (least : ℕ) (fed part whole other : List ℕ) (messages new some newer more newest : List (List ℕ)) (a b c d e f : StreamEnd) → whole ≡ other
    → Frames least fed messages a → Frames least whole (messages ++ new) b → Frames least fed some c → Frames least part (some ++ newer) d
    → Frames least part more e → Frames least other (more ++ newest) f → (new ≡ newer ++ newest) × (a ≡ c) × (d ≡ e) × (b ≡ f)
cut_messages only least fed part whole other messages new some newer more newest a b c d e f same p q r s t u =
    let first = only least fed messages some a c p r in
    let second = only least part (some ++ newer) more d e s t in
    let third = only least other (messages ++ new) (more ++ newest) b f (subst (λ (bytes : List ℕ). Frames least bytes (messages ++ new) b) same q) u in (
      append_cancel_left messages new (newer ++ newest) (
          third.0
          ∙ ap (λ (all : List (List ℕ)). all ++ newest) (sym second.0)
          ∙ ap (λ (all : List (List ℕ)). (all ++ newer) ++ newest) (sym first.0)
          ∙ append_assoc messages newer newest
          ),
      first.1,
      second.1,
      third.1,
    )

-- a frame below the least length closes a lane for good
still_short : HasOneReading → (least : ℕ) (fed piece : List ℕ) (messages others : List (List ℕ)) (n : ℕ) (end : StreamEnd)
    → Frames least fed messages (Short n) → Frames least (fed ++ piece) others end → Short n ≡ end
still_short only least fed piece messages others n end f g =
    let longer : Frames least (fed ++ piece) messages (Short n) = record {
      tail = f.tail ++ piece;
      whole = ap (λ (front : List ℕ). front ++ piece) f.whole ∙ append_assoc (flat_map frame messages) f.tail piece;
      each = f.each;
      ends = short_more least n f.tail piece f.ends;
    } in
    (only least (fed ++ piece) messages others (Short n) end longer g).1

open_before : HasOneReading → (least : ℕ) (fed piece : List ℕ) (messages others : List (List ℕ)) (start end : StreamEnd)
    → Frames least fed messages start → Frames least (fed ++ piece) others end → is_short end ≡ false → is_short start ≡ false
open_before only least fed piece messages others Whole end f g is_open = refl
open_before only least fed piece messages others Part end f g is_open = refl
open_before only least fed piece messages others (Short n) end f g is_open = ap is_short (still_short only least fed piece messages others n end f g) ∙ is_open

-- what is printed for a piece of a lane that is open
open_text : (m : Module) (lane moment : ℕ) (h : List Entry) (start : StreamEnd) (new : List (List ℕ)) (after : StreamEnd) → is_short start ≡ false
    → piece_text m lane moment h start new after ≡ answer_lines m lane moment h new ++ after_answers lane after
open_text m lane moment h Whole new after is_open = refl
open_text m lane moment h Part new after is_open = refl
open_text m lane moment h (Short n) new after is_open = absurd (cc)

no_short_line : (lane : ℕ) (end : StreamEnd) → is_short end ≡ false → after_answers lane end ≡ []
no_short_line lane Whole is_open = refl
no_short_line lane Part is_open = refl
no_short_line lane (Short n) is_open = absurd (cc)

texts_join : (m : Module) (lane moment : ℕ) (h : List Entry) (start middle end : StreamEnd) (newer newest : List (List ℕ)) → is_short start ≡ false → is_short middle ≡ false
    → piece_text m lane moment h start (newer ++ newest) end
    ≡ piece_text m lane moment h start newer middle ++ piece_text m lane moment (h ++ entries_of m moment h newer) middle newest end
texts_join m lane moment h start middle end newer newest is_open none =
    let first = answer_lines m lane moment h newer in
    let next = h ++ entries_of m moment h newer in
    let second = answer_lines m lane moment next newest in
    let line = after_answers lane end in
    open_text m lane moment h start (newer ++ newest) end is_open
    ∙ ap (λ (text : List ℕ). text ++ line) (lines_twice m lane moment h newer newest)
    ∙ append_assoc first second line
    ∙ ap (λ (text : List ℕ). first ++ text) (sym (open_text m lane moment next middle newest end none))
    ∙ ap (λ (text : List ℕ). text ++ piece_text m lane moment next middle newest end)
    (sym (open_text m lane moment h start newer middle is_open ∙ ap (λ (text : List ℕ). first ++ text) (no_short_line lane middle none) ∙ append-nil first))

-- what a piece books and prints is what its parts book and print
cut_piece : HasOneReading → (m : Module) (h : List Entry) (before : List Said) (lane : ℕ) (first second : List ℕ) (more one two : List Entry) (text a b : List ℕ)
    → IsRunOfLine m h before (Piece lane (first ++ second)) more text → IsRunOfLine m h before (Piece lane first) one a
    → IsRunOfLine m (h ++ one) (before ++ Piece lane first ∷ []) (Piece lane second) two b
    → (more ≡ one ++ two) × (IsOpen m (before ++ Piece lane first ∷ []) lane → text ≡ a ++ b)
cut_piece only m h before lane first second more one two text a b (messages, start, new, end, f, g, booked, printed) (some, middle, newer, last, p, q, entered, said) (others, mid, newest, final, r, s, added, told) =
    let now = moment_at before in
    let least = least_length m in
    let part = before ++ Piece lane first ∷ [] in
    let same = cut_messages only least (got lane before) (got lane part) (got lane (before ++ Piece lane (first ++ second) ∷ [])) (got lane (part ++ Piece lane second ∷ []))
    messages new some newer others newest start end middle last mid final ((alike_cut before lane first second).bytes lane) f g p q r s in
    let there : moment_at part ≡ now = moment_more 0 before (Piece lane first) in
    let fed : got lane part ≡ got lane before ++ first =
    got_more lane before (Piece lane first) ∙ ap (λ (bytes : List ℕ). got lane before ++ bytes) (brought_here lane first) in (
      booked
          ∙ ap (λ (all : List (List ℕ)). entries_of m now h all) same.0
          ∙ entries_twice m now h newer newest
          ∙ ap (λ (es : List Entry). es ++ entries_of m now (h ++ es) newest) (sym entered)
          ∙ ap (λ (t : ℕ). one ++ entries_of m t (h ++ one) newest) (sym there)
          ∙ ap (λ (es : List Entry). one ++ es) (sym added),
      λ opened.
          let none : is_short last ≡ false = ap is_short (sym (only least (got lane part) opened.messages (some ++ newer) opened.end last opened.framed q).1) ∙ opened.not_short in
          let is_open : is_short middle ≡ false =
          open_before only least (got lane before) first some (some ++ newer) middle last p (subst (λ (bytes : List ℕ). Frames least bytes (some ++ newer) last) fed q) none in
          printed
          ∙ ap (λ (all : List (List ℕ)). piece_text m lane now h start all end) same.0
          ∙ ap (λ (e : StreamEnd). piece_text m lane now h e (newer ++ newest) end) same.1
          ∙ ap (λ (e : StreamEnd). piece_text m lane now h middle (newer ++ newest) e) same.3
          ∙ texts_join m lane now h middle last final newer newest is_open none
          ∙ ap (λ (t : List ℕ). t ++ piece_text m lane now (h ++ entries_of m now h newer) last newest final) (sym said)
          ∙ ap (λ (es : List Entry). a ++ piece_text m lane now (h ++ es) last newest final) (sym entered)
          ∙ ap (λ (e : StreamEnd). a ++ piece_text m lane now (h ++ one) e newest final) same.2
          ∙ ap (λ (t : ℕ). a ++ piece_text m lane t (h ++ one) mid newest final) (sym there)
          ∙ ap (λ (t : List ℕ). a ++ t) (sym told),
    )

-- lines with a piece and with its parts come to one history and one text
cut_lines : HasOneReading → (m : Module) (h : List Entry) (before earlier later : List Said) (lane : ℕ) (first second : List ℕ) (last other : List Entry) (text output : List ℕ)
    → IsRunOfLines m h before (earlier ++ Piece lane (first ++ second) ∷ later) last text → IsRunOfLines m h before (earlier ++ Piece lane first ∷ Piece lane second ∷ later) other output
    → (last ≡ other) × (IsOpen m ((before ++ earlier) ++ Piece lane first ∷ []) lane → text ≡ output)
cut_lines only m h before [] later lane first second last other text output (more, a, rest, t, split, p) (one, b, remains, s, parted, (two, c, after, r, cut, q)) =
    let whole = cut_piece only m h before lane first second more one two a b c t s r in
    let same : (h ++ one) ++ two ≡ h ++ more = append_assoc h one two ∙ ap (λ (es : List Entry). h ++ es) (sym whole.0) in
    let end = (before ++ Piece lane first ∷ []) ++ Piece lane second ∷ [] in
    let there = same_lines only m (h ++ more) (before ++ Piece lane (first ++ second) ∷ []) end later last other rest after (alike_cut before lane first second) p
    (subst (λ (g : List Entry). IsRunOfLines m g end later other after) same q) in (
      there.0,
      λ opened.
          split
          ∙ ap (λ (front : List ℕ). front ++ rest) (whole.1 (subst (λ (lines : List Said). IsOpen m (lines ++ Piece lane first ∷ []) lane) (append-nil before) opened))
          ∙ ap (λ (back : List ℕ). (b ++ c) ++ back) there.1
          ∙ append_assoc b c after
          ∙ ap (λ (back : List ℕ). b ++ back) (sym cut)
          ∙ sym parted,
    )
cut_lines only m h before (line ∷ earlier) later lane first second last other text output (more, a, rest, t, split, p) (others, b, remains, s, parted, q) =
    let here = same_line only m h before before line more others a b (alike before) t s in
    let joined = earlier ++ Piece lane first ∷ Piece lane second ∷ later in
    let there = cut_lines only m (h ++ more) (before ++ line ∷ []) earlier later lane first second last other rest remains p
    (subst (λ (es : List Entry). IsRunOfLines m (h ++ es) (before ++ line ∷ []) joined other remains) (sym here.0) q) in (
      there.0,
      λ opened.
          let same = there.1 (subst (λ (lines : List Said). IsOpen m (lines ++ Piece lane first ∷ []) lane) (sym (append_assoc before (line ∷ []) earlier)) opened) in
          split ∙ ap (λ (front : List ℕ). front ++ rest) here.1 ∙ ap (λ (back : List ℕ). b ++ back) same ∙ sym parted,
    )

pub cut_joins : HasOneReading → (m : Module) (h : List Entry) (earlier later : List Said) (lane : ℕ) (first second : List ℕ)
    (last other : List Entry) (text output : List ℕ) (over end : ScriptEnd)
    → IsRunOf m h (earlier ++ Piece lane (first ++ second) ∷ later) last text over → IsRunOf m h (earlier ++ Piece lane first ∷ Piece lane second ∷ later) other output end
    → (last ≡ other) × (over ≡ end) × (IsOpen m (earlier ++ Piece lane first ∷ []) lane → text ≡ output)
cut_joins only m h earlier later lane first second last other text output over end t s =
    let same = cut_lines only m h [] earlier later lane first second last other t.answers s.answers t.printed s.printed in
    let counts = told_counts only m h (earlier ++ Piece lane (first ++ second) ∷ later) (earlier ++ Piece lane first ∷ Piece lane second ∷ later) last other text output over end
    (alike_whole earlier later lane first second) same.0 t s in (
      same.0,
      counts.1,
      λ opened.
          t.whole
          ∙ ap (λ (front : List ℕ). front ++ end_lines 1 t.ends ++ last_line over.entries) (same.1 opened)
          ∙ ap (λ (ends : List StreamEnd). s.answers ++ end_lines 1 ends ++ last_line over.entries) counts.0
          ∙ ap (λ (o : ScriptEnd). s.answers ++ end_lines 1 s.ends ++ last_line o.entries) counts.1
          ∙ sym s.whole,
    )
