-- A script has one run after a history.
use Rattle.std.proofs.Common.{◌≡◌, ℕ, ◌+◌, List, [], ◌∷◌, ◌++◌, length, get_or, count_by, Ok, refl, sym, ap, subst, ◌∙◌, arith}
use Rattle.std.proofs.lemmas.List.{append_cancel_left, same_lists}
use Rattle.std.proofs.lemmas.Option.{slice_get-get_or}
use Rattle.hsm_frame.specs.Frames.{Frames, StreamEnd}
use Rattle.hsm_frame.specs.Laws.{HasOneReading, HasReading}
use Rattle.hsm_auth.specs.declared.entry.Entry.{Entry}
use Rattle.hsm_rows.specs.declared.settings.Module.{Module}
use Rattle.hsm_session.specs.declared.script.ScriptEnd.{ScriptEnd}
use Rattle.hsm_answers.specs.Messages.{least_length}
use Rattle.hsm_auth.specs.declared.activity.Place.TheVariants as place
use Rattle.hsm_session.specs.Booking.{console_line, entries_of, entry_of, reply_of}
use Rattle.hsm_session.specs.Scripts.{Said, Nothing, Moment, Piece, Console, script_of}
use Rattle.hsm_session.specs.Lanes.{BringBytes}
use Rattle.hsm_session.specs.Runs.{AreEnds, IsRunOfLines, IsRunOfLine, IsRunOf, brought, end_lines, got, is_cut, is_short, last_line, moment_after, moment_at, piece_text}
use Rattle.hsm_session.proofs.Existence.{ends_exist, prints_exist}
use Rattle.hsm_session.proofs.ReadLaws.{script_brings, script_within}
use Rattle.hsm_session.proofs.Running.{got_more, moment_more}

-- what these lines brought is the same: the bytes of each lane and the moment
pub record AreAlike (some others : List Said) : Type 0 where
  pub bytes : (lane : ℕ) → got lane some ≡ got lane others
  pub moment : moment_at some ≡ moment_at others

pub alike : (lines : List Said) → AreAlike lines lines
alike lines = record { bytes = λ lane. refl; moment = refl }

pub alike_more : (some others : List Said) (line : Said) → AreAlike some others → AreAlike (some ++ line ∷ []) (others ++ line ∷ [])
alike_more some others line a = record {
  bytes = λ lane. got_more lane some line ∙ ap (λ (bytes : List ℕ). bytes ++ brought lane line) (a.bytes lane) ∙ sym (got_more lane others line);
  moment = moment_more 0 some line ∙ ap (λ (moment : ℕ). moment_after moment (line ∷ [])) a.moment ∙ sym (moment_more 0 others line);
}

-- the messages that a piece makes whole, and the ends before and after it, are the same
new_messages : HasOneReading → (least : ℕ) (fed got_first other_fed got_other : List ℕ) (messages new some others : List (List ℕ)) (before after end last : StreamEnd)
    → fed ≡ other_fed → got_first ≡ got_other
    → Frames least fed messages before → Frames least got_first (messages ++ new) after → Frames least other_fed some end → Frames least got_other (some ++ others) last
    → (new ≡ others) × (before ≡ end) × (after ≡ last)
new_messages only least fed got_first other_fed got_other messages new some others before after end last same same_more f g p q =
    let one = only least other_fed messages some before end (subst (λ (bytes : List ℕ). Frames least bytes messages before) same f) p in
    let two = only least got_other (messages ++ new) (some ++ others) after last (subst (λ (bytes : List ℕ). Frames least bytes (messages ++ new) after) same_more g) q in
    (append_cancel_left some new others (ap (λ (all : List (List ℕ)). all ++ new) (sym one.0) ∙ two.0), one.1, two.1)

-- a line has one text, and books one list of entries
pub same_line : HasOneReading → (m : Module) (h : List Entry) (earlier before : List Said) (line : Said) (more others : List Entry) (text output : List ℕ)
    → AreAlike earlier before → IsRunOfLine m h earlier line more text → IsRunOfLine m h before line others output → (more ≡ others) × (text ≡ output)
same_line only m h earlier before Nothing more others text output a t s = (t.0 ∙ sym s.0, t.1 ∙ sym s.1)
same_line only m h earlier before (Moment moment) more others text output a t s = (t.0 ∙ sym s.0, t.1 ∙ sym s.1)
same_line only m h earlier before (Piece lane bytes) more others text output a (messages, start, new, after, f, g, booked, printed) (some, end, newer, last, p, q, entered, said) =
    let line = Piece lane bytes in
    let n = new_messages only (least_length m) (got lane earlier) (got lane (earlier ++ line ∷ [])) (got lane before) (got lane (before ++ line ∷ [])) messages new some newer
    start after end last (a.bytes lane) ((alike_more earlier before line a).bytes lane) f g p q in
    let one : new ≡ newer = n.0 in
    let two : start ≡ end = n.1 in
    let three : after ≡ last = n.2 in
    let now : moment_at earlier ≡ moment_at before = a.moment in (
      booked ∙ ap (λ (moment : ℕ). entries_of m moment h new) now ∙ ap (λ (all : List (List ℕ)). entries_of m (moment_at before) h all) one ∙ sym entered,
      printed
          ∙ ap (λ (moment : ℕ). piece_text m lane moment h start new after) now
          ∙ ap (λ (all : List (List ℕ)). piece_text m lane (moment_at before) h start all after) one
          ∙ ap (λ (e : StreamEnd). piece_text m lane (moment_at before) h e newer after) two
          ∙ ap (λ (e : StreamEnd). piece_text m lane (moment_at before) h end newer e) three
          ∙ sym said,
    )
same_line only m h earlier before (Console message) more others text output a t s =
    let now = a.moment in (
      t.0 ∙ ap (λ (moment : ℕ). entry_of m place.Console moment h message ∷ []) now ∙ sym s.0,
      t.1 ∙ ap (λ (moment : ℕ). console_line (reply_of m place.Console moment h message)) now ∙ sym s.1,
    )

-- the later lines print one text, after one history
pub same_lines : HasOneReading → (m : Module) (h : List Entry) (earlier before later : List Said) (last other : List Entry) (text output : List ℕ)
    → AreAlike earlier before → IsRunOfLines m h earlier later last text → IsRunOfLines m h before later other output → (last ≡ other) × (text ≡ output)
same_lines only m h earlier before [] last other text output a p q = (p.0 ∙ sym q.0, p.1 ∙ sym q.1)
same_lines only m h earlier before (line ∷ later) last other text output a (more, first, rest, t, split, p) (others, one, remains, s, parted, q) =
    let here = same_line only m h earlier before line more others first one a t s in
    let after = subst (λ (booked : List Entry). IsRunOfLines m (h ++ booked) (before ++ line ∷ []) later other remains) (sym here.0) q in
    let there = same_lines only m (h ++ more) (earlier ++ line ∷ []) (before ++ line ∷ []) later last other rest remains (alike_more earlier before line a) p after in
    (there.0, split ∙ ap (λ (front : List ℕ). front ++ rest) here.1 ∙ ap (λ (back : List ℕ). one ++ back) there.1 ∙ sym parted)

-- the lanes end in one way
same_ends : HasOneReading → (m : Module) (lines others : List Said) (ends last : List StreamEnd) → AreAlike lines others
    → AreEnds m lines ends → AreEnds m others last → ends ≡ last
same_ends only m lines others ends last a e f =
    same_lists ends last (e.lanes ∙ sym f.lanes) (λ k d within.
    let here = e.each k (get_or ends k d) (slice_get-get_or ends k d within) in
    let there = f.each k (get_or last k d) (slice_get-get_or last k d (omega (arith, within, e.lanes, f.lanes))) in
    (only (least_length m) (got (k + 1) others) here.0 there.0 (get_or ends k d) (get_or last k d)
    (subst (λ (bytes : List ℕ). Frames (least_length m) bytes here.0 (get_or ends k d)) (a.bytes (k + 1)) here.1) there.1).1)

-- the counts of one history and of ends of lanes
same_counts : (h last other booked more : List Entry) (ends others : List StreamEnd) (over end : ScriptEnd) → last ≡ other → ends ≡ others
    → last ≡ h ++ booked → other ≡ h ++ more → over.entries ≡ length booked → end.entries ≡ length more
    → over.cut ≡ count_by is_cut ends → end.cut ≡ count_by is_cut others → over.short ≡ count_by is_short ends → end.short ≡ count_by is_short others
    → over ≡ end
same_counts h last other booked more ends others over end same same_end begins starts entries count cut cuts short shorts =
    let all : booked ≡ more = append_cancel_left h booked more (sym begins ∙ same ∙ starts) in
    let first : over.entries ≡ end.entries = entries ∙ ap length all ∙ sym count in
    let second : over.cut ≡ end.cut = cut ∙ ap (count_by is_cut) same_end ∙ sym cuts in
    let third : over.short ≡ end.short = short ∙ ap (count_by is_short) same_end ∙ sym shorts in
    ap (λ (n : ℕ). record { entries = n; cut = over.cut; short = over.short }) first
    ∙ ap (λ (n : ℕ). record { entries = end.entries; cut = n; short = over.short }) second
    ∙ ap (λ (n : ℕ). record { entries = end.entries; cut = end.cut; short = n }) third

pub told_counts : HasOneReading → (m : Module) (h : List Entry) (lines others : List Said) (last other : List Entry) (text output : List ℕ) (over end : ScriptEnd)
    → AreAlike lines others → last ≡ other → (t : IsRunOf m h lines last text over) (s : IsRunOf m h others other output end) → (t.ends ≡ s.ends) × (over ≡ end)
told_counts only m h lines others last other text output over end a same t s =
    let ends = same_ends only m lines others t.ends s.ends a t.streams s.streams in
    (ends, same_counts h last other t.booked s.booked t.ends s.ends over end same ends t.begins s.begins t.entries s.entries t.cut s.cut t.short s.short)

pub only_one : HasOneReading → (m : Module) (h : List Entry) (lines : List Said) (last other : List Entry) (text output : List ℕ) (over end : ScriptEnd)
    → IsRunOf m h lines last text over → IsRunOf m h lines other output end → (last ≡ other) × (text ≡ output) × (over ≡ end)
only_one only m h lines last other text output over end t s =
    let prints = same_lines only m h [] [] lines last other t.answers s.answers (alike []) t.printed s.printed in
    let counts = told_counts only m h lines lines last other text output over end (alike lines) prints.0 t s in (
      prints.0,
      t.whole
          ∙ ap (λ (front : List ℕ). front ++ end_lines 1 t.ends ++ last_line over.entries) prints.1
          ∙ ap (λ (ends : List StreamEnd). s.answers ++ end_lines 1 ends ++ last_line over.entries) counts.0
          ∙ ap (λ (o : ScriptEnd). s.answers ++ end_lines 1 s.ends ++ last_line o.entries) counts.1
          ∙ sym s.whole,
      counts.1,
    )

pub at_least_one : HasReading → (m : Module) (h : List Entry) (script : List ℕ) (lines : List Said) → script_of m.hosts script ≡ Ok lines
    → (last : List Entry) × (text : List ℕ) × (over : ScriptEnd) × IsRunOf m h lines last text over
at_least_one read m h script lines is =
    let bring : BringBytes lines = script_brings m.hosts lines (script_within m.hosts script lines is).0 in
    let p = prints_exist read m h [] lines bring in
    let ends = ends_exist read m lines bring in
    let over : ScriptEnd = record { entries = length p.more; cut = count_by is_cut ends.0; short = count_by is_short ends.0 } in (
      h ++ p.more,
      p.text ++ end_lines 1 ends.0 ++ last_line over.entries,
      over,
      record {
        answers = p.text;
        ends = ends.0;
        printed = p.prints;
        streams = ends.1;
        whole = refl;
        booked = p.more;
        begins = refl;
        entries = refl;
        cut = refl;
        short = refl;
      },
    )
