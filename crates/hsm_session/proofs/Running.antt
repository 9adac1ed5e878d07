-- What a line does to a run.
use Rattle.std.proofs.Common.{◌≡◌, ◌≢◌, ℕ, ◌+◌, ◌==◌, Bool, true, false, List, [], ◌∷◌, ◌++◌, length, length-set, if◌then◌else◌, set, get_or, slice_get, Some, refl, sym, ap, subst, ◌∙◌, append-nil, arith}
use Rattle.std.proofs.lemmas.Bool.{ne_eqb, eq-eqb}
use Rattle.std.proofs.lemmas.Grind.{flat_map-append}
use Rattle.std.proofs.lemmas.List.Sums.{sum_by-set}
use Rattle.std.proofs.lemmas.Option.{slice_get_within, get_or_from_slice_get}
use Rattle.hsm_frame.specs.Frames.{Frames}
use Rattle.hsm_auth.specs.declared.entry.Entry.{Entry}
use Rattle.hsm_auth.specs.declared.ledger.Ledger.{Ledger}
use Rattle.hsm_auth.specs.History.{StandsFor}
use Rattle.hsm_auth.specs.declared.activity.Place.TheVariants as place
use Rattle.hsm_rows.specs.declared.settings.Module.{Module}
use Rattle.hsm_session.specs.declared.lane.ScriptLane.{ScriptLane}
use Rattle.hsm_session.specs.declared.run.Run.{Run}
use Rattle.hsm_answers.specs.Messages.{least_length}
use Rattle.hsm_session.specs.Scripts.{Said, Nothing, Moment, Piece, Console}
use Rattle.hsm_session.specs.Booking.{IsBooked, BooksFront, console_line, entries_of, entry_of, reply_of}
use Rattle.hsm_session.specs.Runs.{brought, got, moment_after, moment_at, piece_text}
use Rattle.hsm_session.specs.Lanes.{AreBytes, FeedsPiece, IsAt, IsBehind, IsLaneAt, StopsLine, StopsPiece, TakesLine, all_held, lane_end}
use Rattle.hsm_session.proofs.BookingLaws.{books_nothing, length-entries}
use Rattle.hsm_session.proofs.Places.{each_set}

-- the bytes of a lane with one more line
pub got_more : (lane : ℕ) (earlier : List Said) (line : Said) → got lane (earlier ++ line ∷ []) ≡ got lane earlier ++ brought lane line
got_more lane earlier line =
    flat_map-append (brought lane) earlier (line ∷ []) ∙ ap (λ (rest : List ℕ). got lane earlier ++ rest) (append-nil (brought lane line))

got_same : (lane : ℕ) (earlier : List Said) (line : Said) → brought lane line ≡ [] → got lane earlier ≡ got lane (earlier ++ line ∷ [])
got_same lane earlier line none =
    sym (got_more lane earlier line ∙ ap (λ (rest : List ℕ). got lane earlier ++ rest) none ∙ append-nil (got lane earlier))

-- the moment with one more line
pub moment_more : (before : ℕ) (earlier : List Said) (line : Said) → moment_after before (earlier ++ line ∷ []) ≡ moment_after (moment_after before earlier) (line ∷ [])
moment_more before [] line = refl
moment_more before (Nothing ∷ earlier) line = moment_more before earlier line
moment_more before (Moment moment ∷ earlier) line = moment_more moment earlier line
moment_more before (Piece lane bytes ∷ earlier) line = moment_more before earlier line
moment_more before (Console text ∷ earlier) line = moment_more before earlier line

-- a line that brings no lane anything
at_quiet : (m : Module) (old new : Run) (earlier : List Said) (line : Said) → IsAt m old earlier → new.lanes.items ≡ old.lanes.items
    → ((lane : ℕ) → brought lane line ≡ []) → new.moment ≡ moment_at (earlier ++ line ∷ []) → IsAt m new (earlier ++ line ∷ [])
at_quiet m old new earlier line at same none moment = record {
  count = ap length same ∙ at.count;
  lanes = λ i lane is.
      subst (λ (fed : List ℕ). IsLaneAt m (i + 1) fed lane) (got_same (i + 1) earlier line (none (i + 1)))
      (at.lanes i lane (ap (λ (lanes : List ScriptLane). slice_get lanes i) (sym same) ∙ is));
  moment = moment;
}

pub takes_nothing : (m : Module) (run : Run) (was : Ledger) (before : List ℕ → Type 0) → TakesLine m run run Nothing was was before before
takes_nothing m run was before = record {
  spent = omega arith;
  answers = λ earlier at. (
    at_quiet m run run earlier Nothing at refl (λ lane. refl) (at.moment ∙ sym (moment_more 0 earlier Nothing)),
    λ h stands. ([], [], (refl, refl), books_nothing h was before stands, omega arith),
  );
}

pub takes_moment : (m : Module) (old new : Run) (moment : ℕ) (was : Ledger) (before : List ℕ → Type 0)
    → new.lanes.items ≡ old.lanes.items → new.moment ≡ moment → new.entries ≡ old.entries → TakesLine m old new (Moment moment) was was before before
takes_moment m old new moment was before same set_to kept = record {
  spent = omega (arith, kept, ap all_held same);
  answers = λ earlier at. (
    at_quiet m old new earlier (Moment moment) at same (λ lane. refl) (set_to ∙ sym (moment_more 0 earlier (Moment moment))),
    λ h stands. ([], [], (refl, refl), books_nothing h was before stands, omega (arith, kept)),
  );
}

pub takes_console : (m : Module) (old new : Run) (text : List ℕ) (was is : Ledger) (before after : List ℕ → Type 0)
    → new.lanes.items ≡ old.lanes.items → new.moment ≡ old.moment → new.entries ≡ old.entries + 1
    → ((h : List Entry) → StandsFor was h
    → IsBooked h (entry_of m place.Console old.moment h text ∷ []) (console_line (reply_of m place.Console old.moment h text)) is before after)
    → TakesLine m old new (Console text) was is before after
takes_console m old new text was is before after same moment one books = record {
  spent = omega (arith, one, ap all_held same);
  answers = λ earlier at. (
    at_quiet m old new earlier (Console text) at same (λ lane. refl) (moment ∙ at.moment ∙ sym (moment_more 0 earlier (Console text))),
    λ h stands. (
      entry_of m place.Console (moment_at earlier) h text ∷ [],
      console_line (reply_of m place.Console (moment_at earlier) h text),
      (refl, refl),
      subst (λ (now : ℕ). IsBooked h (entry_of m place.Console now h text ∷ []) (console_line (reply_of m place.Console now h text)) is before after) at.moment (books h stands),
      one,
    ),
  );
}

-- what a lane got and answered, as a reading of its stream
pub framed : (m : Module) (place : ℕ) (fed : List ℕ) (lane : ScriptLane) (messages : List (List ℕ)) → lane.frames.least ≡ least_length m → IsBehind lane fed messages
    → Frames (least_length m) fed messages (lane_end lane)
framed m place fed lane messages least b =
    subst (λ (n : ℕ). Frames n fed messages (lane_end lane)) least (record { tail = b.tail; whole = b.whole; each = b.each; ends = b.ends })

-- a piece brings another lane nothing
brought_none : (lane other : ℕ) (piece : List ℕ) → lane ≢ other → brought lane (Piece other piece) ≡ []
brought_none lane other piece differs =
    let no : other == lane ≡ false = ne_eqb other lane (λ e. differs (sym e)) in
    ap (λ (test : Bool). if test then piece else []) no

pub brought_here : (lane : ℕ) (piece : List ℕ) → brought lane (Piece lane piece) ≡ piece
brought_here lane piece =
    let yes : lane == lane ≡ true = eq-eqb lane lane refl in
    ap (λ (test : Bool). if test then piece else []) yes

-- the lane of a piece
lane_fed : (m : Module) (moment place : ℕ) (fed : List ℕ) (old new : ScriptLane) (piece : List ℕ) (answered : ℕ) (was is : Ledger) (before after : List ℕ → Type 0)
    → IsLaneAt m place fed old → FeedsPiece m moment old new piece answered was is before after → IsLaneAt m place (fed ++ piece) new
lane_fed m moment place fed old new piece answered was is before after at feeds =
    let f = feeds.answers fed at.messages at.behind in
    record { number = feeds.number ∙ at.number; least = feeds.least ∙ at.least; messages = at.messages ++ f.0; behind = f.1 }

pub takes_piece : (m : Module) (old new : Run) (lane fed : ScriptLane) (place : ℕ) (piece : List ℕ) (answered : ℕ) (was is : Ledger) (before after : List ℕ → Type 0)
    → slice_get old.lanes.items place ≡ Some lane → FeedsPiece m old.moment lane fed piece answered was is before after
    → new.lanes.items ≡ set old.lanes.items place fed → new.moment ≡ old.moment → new.entries ≡ old.entries + answered
    → TakesLine m old new (Piece (place + 1) piece) was is before after
takes_piece m old new lane fed place piece answered was is before after here feeds lanes moment entries =
    let line = Piece (place + 1) piece in
    let within = slice_get_within old.lanes.items place lane here in
    let held = λ (l : ScriptLane). length l.frames.bytes in
    let sum = sum_by-set held old.lanes.items place fed lane within in
    let there : get_or old.lanes.items place lane ≡ lane = get_or_from_slice_get old.lanes.items place lane lane here in
    record {
      spent = omega (arith, feeds.spent, sum, ap held there, ap all_held lanes, entries);
      answers = λ earlier at.
          let lane_at = at.lanes place lane here in
          let f = feeds.answers (got (place + 1) earlier) lane_at.messages lane_at.behind in
          let whole : got (place + 1) earlier ++ piece ≡ got (place + 1) (earlier ++ line ∷ []) =
          ap (λ (rest : List ℕ). got (place + 1) earlier ++ rest) (sym (brought_here (place + 1) piece)) ∙ sym (got_more (place + 1) earlier line) in
          let after_it : IsLaneAt m (place + 1) (got (place + 1) (earlier ++ line ∷ [])) fed =
          subst (λ (bytes : List ℕ). IsLaneAt m (place + 1) bytes fed) whole
          (lane_fed m old.moment (place + 1) (got (place + 1) earlier) lane fed piece answered was is before after lane_at feeds) in
          let each = each_set (λ (i : ℕ) (l : ScriptLane). IsLaneAt m (i + 1) (got (i + 1) earlier) l)
          (λ (i : ℕ) (l : ScriptLane). IsLaneAt m (i + 1) (got (i + 1) (earlier ++ line ∷ [])) l) old.lanes.items place fed at.lanes
          (λ i l differs was_at. subst (λ (bytes : List ℕ). IsLaneAt m (i + 1) bytes l)
          (got_same (i + 1) earlier line (brought_none (i + 1) (place + 1) piece (λ e. differs (omega arith)))) was_at) after_it in
          let at_new : IsAt m new (earlier ++ line ∷ []) = record {
            count = ap length lanes ∙ length-set old.lanes.items place fed ∙ at.count;
            lanes = λ i l got_at. each i l (ap (λ (ls : List ScriptLane). slice_get ls i) (sym lanes) ∙ got_at);
            moment = moment ∙ at.moment ∙ sym (moment_more 0 earlier line);
          } in (
            at_new,
            λ h stands.
                let now = moment_at earlier in
                let text = λ (n t : ℕ). piece_text m n t h (lane_end lane) f.0 (lane_end fed) in
                let books = f.3 h stands in
                let books_there : IsBooked h (entries_of m now h f.0) (text (place + 1) now) is before after =
                subst (λ (n : ℕ). IsBooked h (entries_of m now h f.0) (text n now) is before after) lane_at.number
                (subst (λ (t : ℕ). IsBooked h (entries_of m t h f.0) (text lane.number t) is before after) at.moment books) in (
                  entries_of m now h f.0,
                  text (place + 1) now,
                  (
                    lane_at.messages,
                    lane_end lane,
                    f.0,
                    lane_end fed,
                    framed m (place + 1) (got (place + 1) earlier) lane lane_at.messages lane_at.least lane_at.behind,
                    framed m (place + 1) (got (place + 1) (earlier ++ line ∷ [])) fed (lane_at.messages ++ f.0) (feeds.least ∙ lane_at.least)
                        (subst (λ (bytes : List ℕ). IsBehind fed bytes (lane_at.messages ++ f.0)) whole f.1),
                    refl,
                    refl,
                  ),
                  books_there,
                  omega (arith, entries, f.2, length-entries m now h f.0),
                ),
          );
    }

-- a piece whose answers were not wholly written
pub stops_at_piece : (m : Module) (old : Run) (lane : ScriptLane) (place : ℕ) (piece : List ℕ) (was is : Ledger) (before after : List ℕ → Type 0)
    → slice_get old.lanes.items place ≡ Some lane → StopsPiece m old.moment lane piece was is before after
    → StopsLine m old (Piece (place + 1) piece) was is before after
stops_at_piece m old lane place piece was is before after here stops = λ earlier bring at h stands.
    let line = Piece (place + 1) piece in
    let fed = got (place + 1) earlier in
    let lane_at = at.lanes place lane here in
    let whole : fed ++ piece ≡ got (place + 1) (earlier ++ line ∷ []) =
    ap (λ (rest : List ℕ). fed ++ rest) (sym (brought_here (place + 1) piece)) ∙ sym (got_more (place + 1) earlier line) in
    let s = stops fed lane_at.messages (subst AreBytes (sym whole) (bring (place + 1))) lane_at.behind in
    let now = moment_at earlier in
    let text = λ (n t : ℕ). piece_text m n t h (lane_end lane) s.0 s.1 in
    let books : BooksFront h (entries_of m now h s.0) (text (place + 1) now) is before after =
    subst (λ (n : ℕ). BooksFront h (entries_of m now h s.0) (text n now) is before after) lane_at.number
    (subst (λ (t : ℕ). BooksFront h (entries_of m t h s.0) (text lane.number t) is before after) at.moment (s.3 h stands)) in (
      entries_of m now h s.0,
      text (place + 1) now,
      (
        lane_at.messages,
        lane_end lane,
        s.0,
        s.1,
        framed m (place + 1) fed lane lane_at.messages lane_at.least lane_at.behind,
        subst (λ (n : ℕ). Frames n (got (place + 1) (earlier ++ line ∷ [])) (lane_at.messages ++ s.0) s.1) lane_at.least
            (subst (λ (bytes : List ℕ). Frames lane.frames.least bytes (lane_at.messages ++ s.0) s.1) whole s.2),
        refl,
        refl,
      ),
      books,
    )

-- a console text whose answer was not wholly written
pub stops_at_console : (m : Module) (old : Run) (text : List ℕ) (was is : Ledger) (before after : List ℕ → Type 0)
    → ((h : List Entry) → StandsFor was h
    → BooksFront h (entry_of m place.Console old.moment h text ∷ []) (console_line (reply_of m place.Console old.moment h text)) is before after)
    → StopsLine m old (Console text) was is before after
stops_at_console m old text was is before after books = λ earlier bring at h stands. (
  entry_of m place.Console (moment_at earlier) h text ∷ [],
  console_line (reply_of m place.Console (moment_at earlier) h text),
  (refl, refl),
  subst (λ (now : ℕ). BooksFront h (entry_of m place.Console now h text ∷ []) (console_line (reply_of m place.Console now h text)) is before after) at.moment (books h stands),
)
