-- How far a run of a script has come.
use Rattle.std.proofs.Common.{◌≡◌, ℕ, ◌+◌, length-append, List, [], ◌∷◌, ◌++◌, length, map, count_by, slice_get, refl, sym, ap, subst, ◌∙◌, append-nil, append_assoc, Option, Some, None, arith}
use Rattle.std.specs.Option.{option_map}
use Rattle.std.proofs.lemmas.List.{length-map}
use Rattle.std.proofs.lemmas.Option.{slice_get-map}
use Rattle.hsm_frame.specs.Frames.{Frames, StreamEnd}
use Rattle.hsm_io.specs.Texts.{Appends, AppendsFront}
use Rattle.hsm_io.proofs.TextLemmas.{appends_then_front, appends_twice, front_of_more}
use Rattle.hsm_frame.specs.Laws.{HasReading}
use Rattle.hsm_auth.specs.declared.entry.Entry.{Entry}
use Rattle.hsm_auth.specs.declared.ledger.Ledger.{Ledger}
use Rattle.hsm_auth.specs.History.{IsLegal, StandsFor, IsKnown}
use Rattle.hsm_rows.specs.declared.settings.Module.{Module}
use Rattle.hsm_session.specs.declared.lane.ScriptLane.{ScriptLane}
use Rattle.hsm_session.specs.declared.run.Run.{Run}
use Rattle.hsm_session.specs.declared.script.ScriptEnd.{ScriptEnd}
use Rattle.hsm_answers.specs.Messages.{least_length}
use Rattle.hsm_session.specs.Scripts.{Said}
use Rattle.hsm_session.specs.Runs.{AreEnds, IsRunOfLines, IsFinishedRun, IsStoppedRun, end_lines, got, is_cut, is_short, last_line}
use Rattle.hsm_session.specs.Lanes.{BringBytes, Ends, IsAt, StopsLine, TakesLine, lane_end, run_end}
use Rattle.hsm_session.proofs.Existence.{ends_exist, first_bring, prints_exist}
use Rattle.hsm_session.proofs.Running.{framed}

-- Of a run after the history h: the history that the ledger stands for, what was written, and that what is printed for the later lines follows it.
pub record Written (m : Module) (h : List Entry) (lines earlier later : List Said) (run : Run) (ledger : Ledger) (before now : List ℕ → Type 0) : Type 0 where
  pub last : List Entry
  pub text : List ℕ
  pub stands : StandsFor ledger last
  pub legal : IsLegal h → IsLegal last
  pub booked : List Entry
  pub begins : last ≡ h ++ booked
  pub entries : run.entries ≡ length booked
  pub printed : Appends before now text
  pub then_all : (end : List Entry) (rest : List ℕ) → IsRunOfLines m last earlier later end rest → IsRunOfLines m h [] lines end (text ++ rest)

-- The run stands behind the lines before, and for each history that the ledger stood for they were booked and printed.
pub record SoFar (m : Module) (lines later : List Said) (run : Run) (was is : Ledger) (before now : List ℕ → Type 0) : Type 0 where
  pub earlier : List Said
  pub all : earlier ++ later ≡ lines
  pub at : IsAt m run earlier
  pub written : (h : List Entry) → StandsFor was h → Written m h lines earlier later run is before now

-- no line was taken
pub so_far_start : (m : Module) (lines : List Said) (run : Run) (was : Ledger) (before : List ℕ → Type 0)
    → IsAt m run [] → run.entries ≡ 0 → SoFar m lines lines run was was before before
so_far_start m lines run was before at none = record {
  earlier = [];
  all = refl;
  at = at;
  written = λ h stands. record {
    last = h;
    text = [];
    stands = stands;
    legal = λ legal. legal;
    booked = [];
    begins = sym (append-nil h);
    entries = none;
    printed = λ base b. subst before (sym (append-nil base)) b;
    then_all = λ end rest p. p;
  };
}

-- one more line
pub so_far_next : (m : Module) (lines later : List Said) (line : Said) (old new : Run) (was between is : Ledger) (before mid after : List ℕ → Type 0)
    → SoFar m lines (line ∷ later) old was between before mid → TakesLine m old new line between is mid after
    → SoFar m lines later new was is before after
so_far_next m lines later line old new was between is before mid after s takes =
    let taken = takes.answers s.earlier s.at in
    record {
      earlier = s.earlier ++ line ∷ [];
      all = append_assoc s.earlier (line ∷ []) later ∙ s.all;
      at = taken.0;
      written = λ h stands.
          let w = s.written h stands in
          let t = taken.1 w.last w.stands in
          record {
            last = w.last ++ t.0;
            text = w.text ++ t.1;
            stands = t.3.stands;
            legal = λ legal. t.3.legal (w.legal legal);
            booked = w.booked ++ t.0;
            begins = ap (λ (es : List Entry). es ++ t.0) w.begins ∙ append_assoc h w.booked t.0;
            entries = omega (arith, w.entries, t.4, length-append w.booked t.0);
            printed = appends_twice before mid after w.text t.1 w.printed t.3.printed;
            then_all = λ end rest p.
                subst (λ (text : List ℕ). IsRunOfLines m h [] lines end text) (sym (append_assoc w.text t.1 rest))
                (w.then_all end (t.1 ++ rest) (t.0, t.1, rest, t.2, refl, p));
          };
    }

-- the ledger stands for some history still
pub so_far_known : (m : Module) (lines later : List Said) (run : Run) (was is : Ledger) (before now : List ℕ → Type 0)
    → SoFar m lines later run was is before now → IsKnown was → IsKnown is
so_far_known m lines later run was is before now s known =
    let w = s.written known.0 known.1 in
    (w.last, w.stands)

-- how the streams of the lanes end
ends_at : (m : Module) (run : Run) (lines : List Said) → IsAt m run lines → AreEnds m lines (map lane_end run.lanes.items)
ends_at m run lines at = record {
  lanes = length-map run.lanes.items lane_end ∙ at.count;
  each = λ i end is. of (slice_get run.lanes.items i) i end refl (sym (slice_get-map lane_end run.lanes.items i) ∙ is);
}
  where
    of : (found : Option ScriptLane) (i : ℕ) (end : StreamEnd) → slice_get run.lanes.items i ≡ found → option_map lane_end found ≡ Some end
        → (messages : List (List ℕ)) × Frames (least_length m) (got (i + 1) lines) messages end
    of None i end here is = absurd (cc)
    of (Some lane) i end here is =
        let lane_at = at.lanes i lane here in
        let same : lane_end lane ≡ end = cc in (
          lane_at.messages,
          subst (Frames (least_length m) (got (i + 1) lines) lane_at.messages) same
              (framed m (i + 1) (got (i + 1) lines) lane lane_at.messages lane_at.least lane_at.behind),
        )

-- no line is left
pub so_far_done : (m : Module) (lines : List Said) (run : Run) (over : ScriptEnd) (was is : Ledger) (before mid after : List ℕ → Type 0)
    → SoFar m lines [] run was is before mid → Ends run over mid after
    → (h : List Entry) → StandsFor was h → IsFinishedRun m h lines over is before after
so_far_done m lines run over was is before mid after s ends h stands =
    let w = s.written h stands in
    let all : s.earlier ≡ lines = sym (append-nil s.earlier) ∙ s.all in
    let at : IsAt m run lines = subst (IsAt m run) all s.at in
    let last = end_lines 1 (map lane_end run.lanes.items) ++ last_line run.entries in
    record {
      last = w.last;
      text = w.text ++ last;
      told = record {
        answers = w.text;
        ends = map lane_end run.lanes.items;
        printed = subst (λ (text : List ℕ). IsRunOfLines m h [] lines w.last text) (append-nil w.text) (w.then_all w.last [] (refl, refl));
        streams = ends_at m run lines at;
        whole = sym (append_assoc w.text (end_lines 1 (map lane_end run.lanes.items)) (last_line run.entries))
            ∙ ap (λ (n : ℕ). (w.text ++ end_lines 1 (map lane_end run.lanes.items)) ++ last_line n) (sym ends.entries);
        booked = w.booked;
        begins = w.begins;
        entries = ends.entries ∙ w.entries;
        cut = ends.cut;
        short = ends.short;
      };
      stands = w.stands;
      legal = w.legal;
      printed = appends_twice before mid after w.text last w.printed ends.printed;
    }

-- ---- where a write failed

-- a line that was not wholly written
pub so_far_stopped : HasReading → (m : Module) (lines later : List Said) (line : Said) (run : Run) (was between is : Ledger) (before mid after : List ℕ → Type 0)
    → BringBytes lines → SoFar m lines (line ∷ later) run was between before mid → StopsLine m run line between is mid after
    → (h : List Entry) → StandsFor was h → IsStoppedRun m h lines is before after
so_far_stopped read m lines later line run was between is before mid after bring s stops h stands =
    let w = s.written h stands in
    let earlier = s.earlier ++ line ∷ [] in
    let split : earlier ++ later ≡ lines = append_assoc s.earlier (line ∷ []) later ∙ s.all in
    let all = subst BringBytes (sym split) bring in
    let t = stops s.earlier (first_bring earlier later all) s.at w.last w.stands in
    let front = t.3 in
    let p = prints_exist read m (w.last ++ t.0) earlier later all in
    let ends = ends_exist read m lines bring in
    let answers = w.text ++ (t.1 ++ p.text) in
    let booked = w.booked ++ (t.0 ++ p.more) in
    let over : ScriptEnd = record { entries = length booked; cut = count_by is_cut ends.0; short = count_by is_short ends.0 } in
    let closing = end_lines 1 ends.0 ++ last_line over.entries in
    let last = (w.last ++ t.0) ++ p.more in
    let begins : last ≡ h ++ booked = append_assoc w.last t.0 p.more ∙ ap (λ (es : List Entry). es ++ (t.0 ++ p.more)) w.begins ∙ append_assoc h w.booked (t.0 ++ p.more) in
    record {
      last = last;
      text = answers ++ closing;
      over = over;
      told = record {
        answers = answers;
        ends = ends.0;
        printed = w.then_all last (t.1 ++ p.text) (t.0, t.1, p.text, t.2, refl, p.prints);
        streams = ends.1;
        whole = sym (append_assoc answers (end_lines 1 ends.0) (last_line over.entries));
        booked = booked;
        begins = begins;
        entries = refl;
        cut = refl;
        short = refl;
      };
      booked = w.booked ++ front.booked;
      missing = front.missing ++ p.more;
      begins =
          ap (λ (es : List Entry). (w.last ++ es) ++ p.more) front.begins ∙ ap (λ (es : List Entry). (es ++ (front.booked ++ front.missing)) ++ p.more) w.begins
          ∙ simp append_assoc;
      stands = subst (StandsFor is) (ap (λ (es : List Entry). es ++ front.booked) w.begins ∙ append_assoc h w.booked front.booked) front.stands;
      legal = λ legal. subst IsLegal (ap (λ (es : List Entry). es ++ front.booked) w.begins ∙ append_assoc h w.booked front.booked) (front.legal (w.legal legal));
      printed = front_of_more before after answers closing
          (appends_then_front before mid after w.text (t.1 ++ p.text) w.printed (front_of_more mid after t.1 p.text front.printed));
    }

-- the lines at the end were not wholly written
pub so_far_cut : (m : Module) (lines : List Said) (run : Run) (was is : Ledger) (before mid after : List ℕ → Type 0)
    → SoFar m lines [] run was is before mid → AppendsFront mid after (run_end run)
    → (h : List Entry) → StandsFor was h → IsStoppedRun m h lines is before after
so_far_cut m lines run was is before mid after s front h stands =
    let w = s.written h stands in
    let all : s.earlier ≡ lines = sym (append-nil s.earlier) ∙ s.all in
    let ends = map lane_end run.lanes.items in
    let over : ScriptEnd = record { entries = run.entries; cut = count_by is_cut ends; short = count_by is_short ends } in
    record {
      last = w.last;
      text = w.text ++ run_end run;
      over = over;
      told = record {
        answers = w.text;
        ends = ends;
        printed = subst (λ (text : List ℕ). IsRunOfLines m h [] lines w.last text) (append-nil w.text) (w.then_all w.last [] (refl, refl));
        streams = ends_at m run lines (subst (IsAt m run) all s.at);
        whole = sym (append_assoc w.text (end_lines 1 ends) (last_line run.entries));
        booked = w.booked;
        begins = w.begins;
        entries = w.entries;
        cut = refl;
        short = refl;
      };
      booked = w.booked;
      missing = [];
      begins = w.begins ∙ sym (append-nil (h ++ w.booked));
      stands = subst (StandsFor is) w.begins w.stands;
      legal = λ legal. subst IsLegal w.begins (w.legal legal);
      printed = appends_then_front before mid after w.text (run_end run) w.printed front;
    }
