-- Only a console's `A` that bears both officers' words asks for an authorisation.
use Rattle.std.proofs.Common.{◌≡◌, ℕ, Bool, true, false, ◌&&◌, List, [], ◌∷◌, refl, sym, ap, subst, ◌∙◌}
use Rattle.std.specs.Prelude.{Option, Some, None, Result, Ok, Err, is_some, if◌then◌else◌, codes, filter, slice_index_or}
use Rattle.std.specs.List.{AllByRecursion}
use Rattle.std.specs.Str.{bytes_eq}
use Rattle.std.proofs.lemmas.Slice.Eq.{bytes_eq-Decides}
use Rattle.sha2.specs.Sha256.{sha256}
use Rattle.hsm_auth.specs.declared.activity.Activity.{Activity}
use Rattle.hsm_auth.specs.declared.entry.Ask.TheVariants as ask
use Rattle.hsm_auth.specs.Activities.{activity_of}
use Rattle.hsm_rows.specs.declared.settings.Module.{Module}
use Rattle.hsm_rows.specs.declared.row.Code.{Code}
use Rattle.hsm_rows.specs.Table.{RowShape, host_rows, console_rows, row_A, rules_of}
use Rattle.hsm_rows.proofs.RowLemmas.{all_but}
use Rattle.hsm_rows.specs.declared.rules.AskKind.{AskKind}
use Rattle.hsm_rows.specs.declared.rules.AskKind.TheVariants.{UseAsk, LookAsk, RecentAsk, CancelAllAsk, AuthoriseAsk, CancelAsk}
use Rattle.hsm_rows.specs.Forms.{decimal_from}
use Rattle.hsm_rows.specs.Reading.{reading, ReadText}
use Rattle.hsm_answers.specs.Read.{ReadMessage, read_by, message_in}
use Rattle.hsm_answers.specs.Keys.{field_text}
use Rattle.hsm_answers.specs.Checks.{early_fault}
use Rattle.hsm_answers.specs.Asks.{ask_of, ask_read, row_ask, empty_ask, authorise, cancel, words_hold, are_digests}
use Rattle.hsm_answers.specs.Answers.{is_authorise}
use Rattle.hsm_answers.specs.Clear.{Authorises}
use Rattle.hsm_answers.specs.Messages.{command_of, enabled_row, rows_of, text_after, message_ask, ask_by}
use Rattle.hsm_auth.specs.declared.activity.Place.{Place}
use Rattle.hsm_auth.specs.declared.activity.Place.TheVariants.{Host, Console}
use Rattle.hsm_answers.proofs.ClearAnswers.{enabled_among}

-- words with these digests, in this order
record HaveDigests (digests : List (List ℕ)) (first second : List ℕ) : Type 0 where
  one : sha256 first ≡ slice_index_or digests 0 []
  two : sha256 second ≡ slice_index_or digests 1 []

both_left : (x y : Bool) → (x && y) ≡ true → x ≡ true
both_left true y h = refl
both_left false y h = h

both_right : (x y : Bool) → (x && y) ≡ true → y ≡ true
both_right true y h = h
both_right false y h = absurd (cc)

have_digests : (digests : List (List ℕ)) (first second : List ℕ) → are_digests digests first second ≡ true → HaveDigests digests first second
have_digests [] first second h = absurd (cc)
have_digests (d ∷ []) first second h = absurd (cc)
have_digests (d ∷ e ∷ more) first second h = record {
  one = (bytes_eq-Decides (sha256 first) d).0 (both_left (bytes_eq (sha256 first) d) (bytes_eq (sha256 second) e) h);
  two = (bytes_eq-Decides (sha256 second) e).0 (both_right (bytes_eq (sha256 first) d) (bytes_eq (sha256 second) e) h);
}

-- of the console's rows only `A` authorises, and of the host's none does
abbrev OnlyA : Place → RowShape → Type 0
OnlyA side row = is_authorise (rules_of row).ask ≡ true → (side ≡ Console) × (row ≡ row_A)

never : (side : Place) (row : RowShape) → is_authorise (rules_of row).ask ≡ false → OnlyA side row
never side row other = λ authorises. absurd (cc)

-- whether a row authorises
abbrev authorises_by : RowShape → Bool
authorises_by row = is_authorise (rules_of row).ask

of_host : filter authorises_by host_rows ≡ []
unfolding host_rows
of_host = refl

of_console : filter authorises_by console_rows ≡ row_A ∷ []
unfolding console_rows
of_console = refl

host_only : AllByRecursion (OnlyA Host) host_rows
host_only = all_but (OnlyA Host) authorises_by (never Host) host_rows (subst (AllByRecursion (OnlyA Host)) (sym of_host) tt)

console_only : AllByRecursion (OnlyA Console) console_rows
console_only = all_but (OnlyA Console) authorises_by (never Console) console_rows (subst (AllByRecursion (OnlyA Console)) (sym of_console) (λ authorises. (refl, refl), tt))

side_only : (side : Place) → AllByRecursion (OnlyA side) (rows_of side)
side_only Host = host_only
side_only Console = console_only

module _ (m : Module) (a : Activity) (n : ℕ) where
  cancels : (all : Bool) (o : Option Activity) → (if all then ask.CancelAll else cancel o) ≡ ask.Authorise a n → ⊥
  cancels true o h = cc
  cancels false None h = cc
  cancels false (Some b) h = cc

  -- an ask that authorises is that of a row which does
  kind_is : (q : ReadMessage) (kind : AskKind) → row_ask q kind ≡ ask.Authorise a n → kind ≡ AuthoriseAsk
  unfolding row_ask
  kind_is q UseAsk h = absurd (cc)
  kind_is q LookAsk h = absurd (cc)
  kind_is q RecentAsk h = absurd (cc)
  kind_is q CancelAllAsk h = absurd (cc)
  kind_is q AuthoriseAsk h = refl
  kind_is q CancelAsk h = absurd (cancels (bytes_eq (field_text q.read 0) (codes "*")) (activity_of (field_text q.read 0)) h)

  none : {X : Type 0} → empty_ask ≡ ask.Authorise a n → X
  none h = absurd (cc)

  authorises_kind : (kind : AskKind) → kind ≡ AuthoriseAsk → is_authorise kind ≡ true
  authorises_kind kind e = ap is_authorise e

  -- an `A` whose ask authorises
  by_words : (side : Place) (message : List ℕ) (r : ReadText) → side ≡ Console → enabled_row m side (command_of m side message) ≡ Some row_A
      → reading row_A (text_after m side message) ≡ Ok r
      → (held : Bool) → are_digests m.officers (field_text r 2) (field_text r 3) ≡ held → (named : Option Activity) → activity_of (field_text r 0) ≡ named
      → (if held then authorise named (decimal_from 0 (field_text r 1)) else empty_ask) ≡ ask.Authorise a n → Authorises m side message a n
  by_words side message r s f e true w None o h = none h
  by_words side message r s f e true w (Some b) o h =
      let d = have_digests m.officers (field_text r 2) (field_text r 3) w in
      record { of_console = s; found = f; read = r; reads = e; named = o ∙ cc; lasts = cc; first = d.one; second = d.two }
  by_words side message r s f e false w named o h = none h

  by_row : (side : Place) (message : List ℕ) (row : RowShape) (r : ReadText) → enabled_row m side (command_of m side message) ≡ Some row
      → reading row (text_after m side message) ≡ Ok r → (side ≡ Console) × (row ≡ row_A)
      → row_ask (read_by m row r) (rules_of row).ask ≡ ask.Authorise a n → Authorises m side message a n
  unfolding row_ask words_hold
  by_row side message row r f e is h =
      by_words side message r is.0 (f ∙ ap (λ (d : RowShape). Some d) is.1) (ap (λ (d : RowShape). reading d (text_after m side message)) (sym is.1) ∙ e)
      (are_digests m.officers (field_text r 2) (field_text r 3)) refl (activity_of (field_text r 0)) refl
      (ap (λ (d : RowShape). row_ask (read_by m d r) (rules_of d).ask) (sym is.1) ∙ h)

  by_check : (side : Place) (message : List ℕ) (row : RowShape) (r : ReadText) (failed : Bool) → enabled_row m side (command_of m side message) ≡ Some row
      → reading row (text_after m side message) ≡ Ok r
      → (if failed then empty_ask else row_ask (read_by m row r) (rules_of row).ask) ≡ ask.Authorise a n → Authorises m side message a n
  by_check side message row r true f e h = none h
  by_check side message row r false f e h =
      by_row side message row r f e
      ((enabled_among (OnlyA side) m side (command_of m side message) row (side_only side) f) (authorises_kind (rules_of row).ask (kind_is (read_by m row r) (rules_of row).ask h))) h

  by_reading : (side : Place) (message : List ℕ) (row : RowShape) (rd : Result ReadText Code) → enabled_row m side (command_of m side message) ≡ Some row
      → reading row (text_after m side message) ≡ rd → ask_read (message_in m row rd) ≡ ask.Authorise a n → Authorises m side message a n
  unfolding ask_read
  by_reading side message row (Err code) f e h = none h
  by_reading side message row (Ok r) f e h = by_check side message row r (is_some (early_fault (read_by m row r))) f e h

  by_enabled : (side : Place) (message : List ℕ) (found : Option RowShape) → enabled_row m side (command_of m side message) ≡ found
      → ask_by m side message found ≡ ask.Authorise a n → Authorises m side message a n
  unfolding ask_of
  by_enabled side message None f h = none h
  by_enabled side message (Some row) f h = by_reading side message row (reading row (text_after m side message)) f refl h

pub words_authorise : (m : Module) (side : Place) (message : List ℕ) (a : Activity) (n : ℕ) → message_ask m side message ≡ ask.Authorise a n → Authorises m side message a n
unfolding message_ask
words_authorise m side message a n h = by_enabled m a n side message (enabled_row m side (command_of m side message)) refl h
