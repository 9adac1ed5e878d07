-- Answers that show a clear key or PIN, and texts that authorise.
use Rattle.std.specs.Prelude.{◌≡◌, ◌⊎◌, ◌<◌, ℕ, true, false, List, [], ◌∷◌, map, take, slice_get, slice_index_or, Contains, Some, None, Ok}
use Rattle.sha2.specs.Sha256.{sha256}
use Rattle.hsm_auth.specs.declared.activity.Activity.{Activity}
use Rattle.hsm_auth.specs.declared.activity.Category.TheVariants.{Component, PinClear}
use Rattle.hsm_auth.specs.declared.activity.Place.TheVariants.{Host, Console}
use Rattle.hsm_auth.specs.declared.entry.Ask.TheVariants.{Use, Authorise}
use Rattle.hsm_auth.specs.declared.entry.Entry.{Entry}
use Rattle.hsm_auth.specs.declared.entry.Grant.{Grant}
use Rattle.hsm_auth.specs.declared.entry.Granted.{Granted}
use Rattle.hsm_auth.specs.declared.entry.Granted.TheVariants as granted
use Rattle.hsm_auth.specs.declared.entry.Needs.{Needs}
use Rattle.hsm_auth.specs.Activities.{activity, activity_of, covers}
use Rattle.hsm_auth.specs.History.{end_of, ends, live, now}
use Rattle.hsm_rows.specs.declared.settings.Module.{Module}
use Rattle.hsm_rows.specs.Table.{RowShape, row_A, row_GC, row_NG, rules_of}
use Rattle.hsm_rows.specs.Forms.{decimal_from}
use Rattle.hsm_rows.specs.Reading.{reading, ReadText}
use Rattle.hsm_rows.specs.Clear.{has_clear}
use Rattle.hsm_answers.specs.Read.{read_by}
use Rattle.hsm_answers.specs.Checks.{check_read, fixed_need}
use Rattle.hsm_answers.specs.Keys.{field_text, type_of_code}
use Rattle.hsm_answers.specs.Messages.{command_of, enabled_row, text_after}
use Rattle.hsm_auth.specs.declared.activity.Place.{Place}

-- the message is answered 00 or `OK` by a row that shows a clear key or PIN
pub record ShowsClear (m : Module) (side : Place) (message : List ℕ) (g : Granted) : Type 0 where
  pub row : RowShape
  pub found : enabled_row m side (command_of m side message) ≡ Some row
  pub marked : has_clear row ≡ true
  pub read : ReadText
  pub reads : reading row (text_after m side message) ≡ Ok read
  pub good : check_read (read_by m row read) g ≡ None

-- the needs that are this one activity
abbrev pub only_need : Activity → Needs
only_need activity = record { first = Some activity; second = None }

-- `pin.clear` at hosts, under the set that the message names
abbrev pub clear_pins : ReadText → Activity
clear_pins read = activity PinClear None (Some Host) (Some read.set)

-- `component` of the type that the first field names, at the console, under the set that the message names
abbrev pub components : ReadText → Activity
components read = activity Component (Some (type_of_code (field_text read 0))) (Some Console) (Some read.set)

-- the row is one of the two that show a clear key or PIN, and the activity is what its mark needs
abbrev pub IsMarkOf : RowShape → ReadText → Activity → Type 0
IsMarkOf row read need = ((row ≡ row_NG) × (need ≡ clear_pins read)) ⊎ ((row ≡ row_GC) × (need ≡ components read))

-- The entry at the place `giver`, before place i, authorised the grant's activity, which gave the grant its end, and no entry between the two ends it.
pub record IsGivenBefore (h : List Entry) (i giver : ℕ) (g : Grant) : Type 0 where
  pub earlier : giver < i
  pub entry : Entry
  pub there : slice_get h giver ≡ Some entry
  pub minutes : ℕ
  pub asks : entry.ask ≡ Authorise g.activity minutes
  pub answered : entry.granted ≡ granted.Authorised
  pub end : g.end ≡ end_of (now (take giver h) entry.moment) minutes
  pub unended : (k : ℕ) (between : Entry) → giver < k → k < i → slice_get h k ≡ Some between → ends between.ask between.granted g.activity ≡ false

-- Of an answer that shows a clear key or PIN, at its entry e at place i: the entry needs the activity of the row's mark and is answered `Use`. A grant that covers
-- this activity is live just before the entry, at its moment, and an earlier entry gave that grant.
pub record IsGrantedAt (row : RowShape) (read : ReadText) (h : List Entry) (i : ℕ) (e : Entry) : Type 0 where
  pub need : Activity
  pub needed : map (fixed_need read) (rules_of row).needs ≡ need ∷ []
  pub marked : IsMarkOf row read need
  pub words : ℕ
  pub asks : e.ask ≡ Use (only_need need) words
  pub first : ℕ
  pub used : e.granted ≡ granted.Use first
  pub grant : Grant
  pub covered : covers grant.activity need ≡ true
  pub lives : Contains (live (take i h) e.moment) grant
  pub giver : ℕ
  pub given : IsGivenBefore h i giver grant

-- the message is a console's `A` that names the activity and the minutes, and bears both officers' words, the first officer's first
pub record Authorises (m : Module) (side : Place) (message : List ℕ) (activity : Activity) (minutes : ℕ) : Type 0 where
  pub of_console : side ≡ Console
  pub found : enabled_row m side (command_of m side message) ≡ Some row_A
  pub read : ReadText
  pub reads : reading row_A (text_after m side message) ≡ Ok read
  pub named : activity_of (field_text read 0) ≡ Some activity
  pub lasts : decimal_from 0 (field_text read 1) ≡ minutes
  pub first : sha256 (field_text read 2) ≡ slice_index_or m.officers 0 []
  pub second : sha256 (field_text read 3) ≡ slice_index_or m.officers 1 []
