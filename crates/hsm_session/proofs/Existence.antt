-- Each line has entries and a text, and each script a history and an output.
use Rattle.std.proofs.Common.{◌≡◌, ℕ, zero, suc, ◌+◌, List, [], ◌∷◌, ◌++◌, length, flat_map, slice_get, Some, refl, sym, ap, subst, ◌∙◌, append_assoc, append-nil, arith}
use Rattle.std.proofs.lemmas.Grind.{flat_map-append}
use Rattle.hsm_frame.specs.Frames.{Frames, StreamEnd, frame}
use Rattle.hsm_frame.specs.Laws.{HasReading}
use Rattle.hsm_auth.specs.declared.activity.Place.TheVariants as place
use Rattle.hsm_auth.specs.declared.entry.Entry.{Entry}
use Rattle.hsm_rows.specs.declared.settings.Module.{Module}
use Rattle.hsm_answers.specs.Messages.{least_length}
use Rattle.hsm_session.specs.Scripts.{Said, Nothing, Moment, Piece, Console}
use Rattle.hsm_session.specs.Booking.{console_line, entries_of, entry_of, reply_of}
use Rattle.hsm_session.specs.Runs.{AreEnds, IsRunOfLines, IsRunOfLine, brought, got, moment_at, piece_text}
use Rattle.hsm_session.specs.Lanes.{AreBytes, BringBytes}
use Rattle.hsm_session.proofs.Running.{brought_here, got_more}
use Rattle.hsm_session.proofs.Streams.{bytes_left, bytes_right, frames_more}

-- the first lines bring bytes
pub first_bring : (first second : List Said) → BringBytes (first ++ second) → BringBytes first
first_bring first second bring = λ lane. bytes_left (got lane first) (got lane second) (subst AreBytes (flat_map-append (brought lane) first second) (bring lane))

-- what a line books and prints
tells_exist : HasReading → (m : Module) (h : List Entry) (earlier : List Said) (line : Said) → BringBytes (earlier ++ line ∷ [])
    → (more : List Entry) × (text : List ℕ) × IsRunOfLine m h earlier line more text
tells_exist read m h earlier Nothing bring = ([], [], (refl, refl))
tells_exist read m h earlier (Moment moment) bring = ([], [], (refl, refl))
tells_exist read m h earlier (Piece lane bytes) bring =
    let least = least_length m in
    let line = Piece lane bytes in
    let whole : got lane (earlier ++ line ∷ []) ≡ got lane earlier ++ bytes =
    got_more lane earlier line ∙ ap (λ (rest : List ℕ). got lane earlier ++ rest) (brought_here lane bytes) in
    let all = subst AreBytes whole (bring lane) in
    let before = read least (got lane earlier) (bytes_left (got lane earlier) bytes all) in
    let front = flat_map frame before.0 in
    let after = read least (before.2.tail ++ bytes)
    (bytes_right front (before.2.tail ++ bytes) (subst AreBytes (ap (λ (fed : List ℕ). fed ++ bytes) before.2.whole ∙ append_assoc front before.2.tail bytes) all)) in
    let frames = subst (λ (fed : List ℕ). Frames least fed (before.0 ++ after.0) after.1) (sym whole)
    (frames_more least (got lane earlier) bytes before.0 after.0 before.1 after.1 before.2 after.2) in
    (entries_of m (moment_at earlier) h after.0, piece_text m lane (moment_at earlier) h before.1 after.0 after.1, (before.0, before.1, after.0, after.1, before.2, frames, refl, refl))
tells_exist read m h earlier (Console text) bring =
    (entry_of m place.Console (moment_at earlier) h text ∷ [], console_line (reply_of m place.Console (moment_at earlier) h text), (refl, refl))

-- the entries that are booked after a history, and what is printed
pub record Exists (m : Module) (h : List Entry) (earlier later : List Said) : Type 0 where
  pub more : List Entry
  pub text : List ℕ
  pub prints : IsRunOfLines m h earlier later (h ++ more) text

-- what the later lines book and print
pub prints_exist : HasReading → (m : Module) (h : List Entry) (earlier later : List Said) → BringBytes (earlier ++ later) → Exists m h earlier later
prints_exist read m h earlier [] bring = record { more = []; text = []; prints = (append-nil h, refl) }
prints_exist read m h earlier (line ∷ later) bring =
    let split : (earlier ++ line ∷ []) ++ later ≡ earlier ++ line ∷ later = append_assoc earlier (line ∷ []) later in
    let all = subst BringBytes (sym split) bring in
    let t = tells_exist read m h earlier line (first_bring (earlier ++ line ∷ []) later all) in
    let p = prints_exist read m (h ++ t.0) (earlier ++ line ∷ []) later all in
    record {
      more = t.0 ++ p.more;
      text = t.1 ++ p.text;
      prints = (
        t.0,
        t.1,
        p.text,
        t.2,
        refl,
        subst (λ (end : List Entry). IsRunOfLines m (h ++ t.0) (earlier ++ line ∷ []) later end p.text) (append_assoc h t.0 p.more) p.prints,
      );
    }

-- how the streams of some lanes end, after so many lanes before them
record EndsFrom (m : Module) (lines : List Said) (first count : ℕ) : Type 0 where
  ends : List StreamEnd
  lanes : length ends ≡ count
  each : (i : ℕ) (end : StreamEnd) → slice_get ends i ≡ Some end → (messages : List (List ℕ)) × Frames (least_length m) (got (first + i + 1) lines) messages end

ends_from : HasReading → (m : Module) (lines : List Said) → BringBytes lines → (first count : ℕ) → EndsFrom m lines first count
ends_from read m lines bring first zero = record { ends = []; lanes = refl; each = λ i end is. absurd (cc) }
ends_from read m lines bring first (suc count) =
    let one = read (least_length m) (got (first + 1) lines) (bring (first + 1)) in
    let rest = ends_from read m lines bring (first + 1) count in
    record { ends = one.1 ∷ rest.ends; lanes = ap (λ (n : ℕ). suc n) rest.lanes; each = of one rest }
  where
    of : (one : (messages : List (List ℕ)) × (end : StreamEnd) × Frames (least_length m) (got (first + 1) lines) messages end) (rest : EndsFrom m lines (first + 1) count)
        → (i : ℕ) (end : StreamEnd) → slice_get (one.1 ∷ rest.ends) i ≡ Some end
        → (messages : List (List ℕ)) × Frames (least_length m) (got (first + i + 1) lines) messages end
    of one rest zero end is =
        let same : one.1 ≡ end = cc in
        let place : first + 1 ≡ first + 0 + 1 = omega arith in
        (one.0, subst (λ (lane : ℕ). Frames (least_length m) (got lane lines) one.0 end) place (subst (λ (e : StreamEnd). Frames (least_length m) (got (first + 1) lines) one.0 e) same one.2))
    of one rest (suc i) end is =
        let found = rest.each i end is in
        let place : first + 1 + i + 1 ≡ first + suc i + 1 = omega arith in
        (found.0, subst (λ (lane : ℕ). Frames (least_length m) (got lane lines) found.0 end) place found.1)

-- how the streams of all lanes end
pub ends_exist : HasReading → (m : Module) (lines : List Said) → BringBytes lines → (ends : List StreamEnd) × AreEnds m lines ends
ends_exist read m lines bring =
    let all = ends_from read m lines bring 0 m.hosts in (
      all.ends,
      record {
        lanes = all.lanes;
        each = λ i end is.
            let found = all.each i end is in
            let place : 0 + i + 1 ≡ i + 1 = omega arith in
            (found.0, subst (λ (lane : ℕ). Frames (least_length m) (got lane lines) found.0 end) place found.1);
      },
    )
