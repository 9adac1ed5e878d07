-- Answers that show a clear key or PIN, and what was granted then.
use Rattle.std.proofs.Common.{◌≡◌, ◌-◌, ◌<◌, ℕ, zero, suc, Bool, true, false, ◌&&◌, ◌||◌, List, [], ◌∷◌, Option, Some, None, refl, sym, ap, ◌∙◌, subst, inl, inr, cond, map, take, drop, slice_get, arith}
use Rattle.std.specs.Prelude.{◌⊎◌, if◌then◌else◌, filter, Contains}
use Rattle.std.specs.List.{AllByRecursion, list_any}
use Rattle.std.proofs.lemmas.List.{length-take, take-take}
use Rattle.std.proofs.lemmas.Option.{slice_get_within}
use Rattle.circular_buffer.proofs.Places.{slice_get-drop, slice_get-take}
use Rattle.std.specs.Str.{bytes_eq}
use Rattle.hsm_auth.specs.declared.activity.Activity.{Activity}
use Rattle.hsm_auth.specs.declared.entry.Ask.TheVariants as ask
use Rattle.hsm_auth.specs.declared.entry.Entry.{Entry}
use Rattle.hsm_auth.specs.declared.entry.Grant.{Grant}
use Rattle.hsm_auth.specs.declared.entry.Granted.{Granted}
use Rattle.hsm_auth.specs.declared.entry.Granted.TheVariants as granted
use Rattle.hsm_auth.specs.Activities.{covers}
use Rattle.hsm_auth.specs.Grants.{GivenAt, IsLive}
use Rattle.hsm_auth.specs.History.{end_of, ends, outcome, live, is_met, next, now}
use Rattle.hsm_rows.specs.declared.settings.Module.{Module}
use Rattle.hsm_rows.specs.Table.{RowShape, row_with, host_rows, console_rows, row_NG, row_GC, rules_of}
use Rattle.hsm_rows.proofs.RowLemmas.{all_but}
use Rattle.hsm_rows.specs.Reading.{ReadText}
use Rattle.hsm_rows.specs.Clear.{has_clear}
use Rattle.hsm_answers.specs.Read.{read_by}
use Rattle.hsm_answers.specs.Keys.{first_code, type_of}
use Rattle.hsm_answers.specs.Checks.{early_fault, late_fault, check_read, fixed_need, needs_of, is_refused}
use Rattle.hsm_answers.specs.Asks.{asked_words, row_ask}
use Rattle.hsm_answers.specs.Clear.{ShowsClear, IsGrantedAt, IsGivenBefore, IsMarkOf, only_need, clear_pins, components}
use Rattle.hsm_answers.specs.Messages.{command_of, enabled_row, rows_of, text_after, message_ask, ask_by}
use Rattle.hsm_auth.specs.declared.activity.Place.{Place}
use Rattle.hsm_auth.specs.declared.activity.Place.TheVariants.{Host, Console}
use Rattle.hsm_answers.proofs.AnswerSteps.{passed_ask}

-- a row that shows a clear key or PIN is NG or GC
abbrev IsMarked : RowShape → Type 0
IsMarked row = (row ≡ row_NG) ⊎ (row ≡ row_GC)

abbrev MarksOnly : RowShape → Type 0
MarksOnly row = has_clear row ≡ true → IsMarked row

unmarked : (row : RowShape) → has_clear row ≡ false → MarksOnly row
unmarked row plain = λ marked. absurd (cc)

host_marked : filter has_clear host_rows ≡ row_NG ∷ []
unfolding host_rows
host_marked = refl

console_marked : filter has_clear console_rows ≡ row_GC ∷ []
unfolding console_rows
console_marked = refl

host_marks : AllByRecursion MarksOnly host_rows
host_marks = all_but MarksOnly has_clear unmarked host_rows (subst (AllByRecursion MarksOnly) (sym host_marked) (λ marked. inl refl, tt))

console_marks : AllByRecursion MarksOnly console_rows
console_marks = all_but MarksOnly has_clear unmarked console_rows (subst (AllByRecursion MarksOnly) (sym console_marked) (λ marked. inr refl, tt))

side_marks : (side : Place) → AllByRecursion MarksOnly (rows_of side)
side_marks Host = host_marks
side_marks Console = console_marks

found_here : (P : RowShape → Type 0) (x : RowShape) (rest : Option RowShape) (b : Bool) (row : RowShape) → P x → (rest ≡ Some row → P row) → cond b (Some x) rest ≡ Some row → P row
found_here P x rest true row here later found = subst P (cc) here
found_here P x rest false row here later found = later found

-- what holds of all rows holds of the one that is found
found_among : (P : RowShape → Type 0) (code : List ℕ) (rows : List RowShape) (row : RowShape) → AllByRecursion P rows → row_with code rows ≡ Some row → P row
found_among P code [] row all found = absurd (cc)
found_among P code (x ∷ rows) row all found =
    found_here P x (row_with code rows) (bytes_eq code x.code) row all.0 (λ later. found_among P code rows row all.1 later) found

by_disabled : (P : RowShape → Type 0) (code : List ℕ) (rows : List RowShape) (row : RowShape) (disabled : Bool) → AllByRecursion P rows → cond disabled None (row_with code rows) ≡ Some row → P row
by_disabled P code rows row true all found = absurd (cc)
by_disabled P code rows row false all found = found_among P code rows row all found

-- what holds of all rows of a side holds of each that is enabled
pub enabled_among : (P : RowShape → Type 0) (m : Module) (side : Place) (code : List ℕ) (row : RowShape) → AllByRecursion P (rows_of side) → enabled_row m side code ≡ Some row → P row
unfolding enabled_row
enabled_among P m side code row all found = by_disabled P code (rows_of side) row (list_any (bytes_eq code) m.disabled.items) all found

pub is_marked : (m : Module) (side : Place) (code : List ℕ) (row : RowShape) → enabled_row m side code ≡ Some row → has_clear row ≡ true → IsMarked row
is_marked m side code row found marked = (enabled_among MarksOnly m side code row (side_marks side) found) marked

-- where no check fails, no early one does and the needs were covered
passed_before : (before late : Option ℕ) (refused : Bool) → first_code (before ∷ (if refused then Some 17 else None) ∷ late ∷ []) ≡ None → (before ≡ None) × (refused ≡ false)
passed_before None late false h = (refl, refl)
passed_before None late true h = absurd (cc)
passed_before (Some code) late refused h = absurd (cc)

-- the one need of a row with a mark
record NeedsOne (row : RowShape) (m : Module) (read : ReadText) : Type 0 where
  need : Activity
  needed : map (fixed_need read) (rules_of row).needs ≡ need ∷ []
  is : IsMarkOf row read need
  asks : row_ask (read_by m row read) (rules_of row).ask ≡ ask.Use (only_need need) (asked_words (read_by m row read))

needs_NG : (m : Module) (read : ReadText) → NeedsOne row_NG m read
unfolding row_ask needs_of
needs_NG m read = record { need = clear_pins read; needed = refl; is = inl (refl, refl); asks = refl }

needs_GC : (m : Module) (read : ReadText) → NeedsOne row_GC m read
unfolding row_ask needs_of type_of
needs_GC m read = record { need = components read; needed = refl; is = inr (refl, refl); asks = refl }

needs_marked : (m : Module) (read : ReadText) (row : RowShape) → IsMarked row → NeedsOne row m read
needs_marked m read row (inl e) = subst (λ (d : RowShape). NeedsOne d m read) (sym e) (needs_NG m read)
needs_marked m read row (inr e) = subst (λ (d : RowShape). NeedsOne d m read) (sym e) (needs_GC m read)

-- a use that was not refused had its one need met, and drew its words from the next place on
used_met : (need : Activity) (h : List Entry) (moment : ℕ) (met : Bool) → (is_met (Some need) (live h moment) && true) ≡ met
    → is_refused (if met then granted.Use (next h) else granted.Refused) ≡ false
    → (is_met (Some need) (live h moment) ≡ true) × ((if met then granted.Use (next h) else granted.Refused) ≡ granted.Use (next h))
used_met need h moment true is good = (and_true (is_met (Some need) (live h moment)) is, refl) where
  and_true : (b : Bool) → (b && true) ≡ true → b ≡ true
  and_true true e = refl
  and_true false e = cc
used_met need h moment false is good = absurd (cc)

-- where no member passes a test, none at a place does
none_passes : (test : Entry → Bool) (es : List Entry) (k : ℕ) (e : Entry) → list_any test es ≡ false → slice_get es k ≡ Some e → test e ≡ false
none_passes test [] k e none there = absurd (cc)
none_passes test (x ∷ es) zero e none there = let same : x ≡ e = cc in ap test (sym same) ∙ left_false (test x) (list_any test es) none where
  left_false : (a b : Bool) → (a || b) ≡ false → a ≡ false
  left_false true b h = h
  left_false false b h = refl
none_passes test (x ∷ es) (suc k) e none there = none_passes test es k e (right_false (test x) (list_any test es) none) there where
  right_false : (a b : Bool) → (a || b) ≡ false → b ≡ false
  right_false true b h = absurd (cc)
  right_false false b h = h

-- a grant that an entry before place i gave, as the whole history tells it
given_before : (h : List Entry) (i giver : ℕ) (g : Grant) → GivenAt (take i h) giver g → IsGivenBefore h i giver g
given_before h i giver g x =
    let within = slice_get_within (take i h) giver x.entry x.there in
    let earlier : giver < i = omega (arith, within, length-take i h) in
    record {
      earlier = earlier;
      entry = x.entry;
      there = sym (slice_get-take i h giver earlier) ∙ x.there;
      minutes = x.minutes;
      asks = x.ask;
      answered = x.granted;
      end = x.end ∙ ap (λ (es : List Entry). end_of (now es x.entry.moment) x.minutes) (take-take giver i h (omega (arith, earlier)));
      unended = λ k between after before there.
          none_passes (λ (e : Entry). ends e.ask e.granted g.activity) (drop (suc giver) (take i h)) (k - suc giver) between x.unended
          (slice_get-drop (suc giver) (take i h) (k - suc giver) k (omega (arith, after)) ∙ (slice_get-take i h k before ∙ there));
    }

-- a need that is met is covered by a live grant, and such grants are in the list of the live ones
abbrev pub MetCovered : Type 0
MetCovered = (h : List Entry) (moment : ℕ) (need : Activity) → is_met (Some need) (live h moment) ≡ true → (g : Grant) × IsLive h moment g × (covers g.activity need ≡ true)

abbrev pub LiveContains : Type 0
LiveContains = (h : List Entry) (moment : ℕ) (g : Grant) → IsLive h moment g → Contains (live h moment) g

pub granted_at : MetCovered → LiveContains → (m : Module) (side : Place) (message : List ℕ) (h : List Entry) (i : ℕ) (e : Entry)
    → e.ask ≡ message_ask m side message → e.granted ≡ outcome (take i h) e.moment e.ask
    → (s : ShowsClear m side message e.granted) → IsGrantedAt s.row s.read h i e
unfolding check_read message_ask
granted_at met_covered contains m side message h i e asks answers s =
    let said = read_by m s.row s.read in
    let parts = passed_before (early_fault said) (late_fault said) (is_refused e.granted) s.good in
    let one = needs_marked m s.read s.row (is_marked m side (command_of m side message) s.row s.found s.marked) in
    let words = asked_words said in
    let asked : e.ask ≡ ask.Use (only_need one.need) words =
    asks ∙ (ap (ask_by m side message) s.found ∙ (passed_ask m s.row (text_after m side message) s.read s.reads parts.0 ∙ one.asks)) in
    let answered : e.granted ≡ outcome (take i h) e.moment (ask.Use (only_need one.need) words) = answers ∙ ap (outcome (take i h) e.moment) asked in
    let good = subst (λ (g : Granted). is_refused g ≡ false) answered parts.1 in
    let met = used_met one.need (take i h) e.moment (is_met (Some one.need) (live (take i h) e.moment) && true) refl good in
    let by = met_covered (take i h) e.moment one.need met.0 in
    record {
      need = one.need;
      needed = one.needed;
      marked = one.is;
      words = words;
      asks = asked;
      first = next (take i h);
      used = answered ∙ met.1;
      grant = by.0;
      covered = by.2;
      lives = contains (take i h) e.moment by.0 by.1;
      giver = by.1.0.0;
      given = given_before h i by.1.0.0 by.0 by.1.0.1;
    }
