-- The answers of the top call and their causes.
use Rattle.std.specs.Prelude.{◌≡◌, ℕ, ◌+◌, ◌<◌, ◌≤◌, ◌⊎◌, ◌==◌, Bool, true, false, List, [], length, slice_get, Some, if◌then◌else◌, Ok, Err}
use Rattle.hsm_io.specs.Outside.{Rose}
use Rattle.hsm_io.specs.Files.{kept_name}
use Rattle.hsm_io.specs.Texts.{Appends, AppendsFront, Stays}
use Rattle.hsm_rows.specs.Table.{RowShape}
use Rattle.hsm_rows.specs.Explain.{explain_text}
use Rattle.hsm_auth.specs.declared.entry.Entry.{Entry}
use Rattle.hsm_auth.specs.History.{IsLegal}
use Rattle.hsm_rows.specs.declared.settings.Module.{Module}
use Rattle.hsm_session.specs.declared.script.ScriptEnd.{ScriptEnd}
use Rattle.hsm_session.specs.Scripts.{Said, script_of}
use Rattle.hsm_answers.specs.Clear.{ShowsClear}
use Rattle.hsm_auth.specs.declared.activity.Place.{Place}
use Rattle.hsm_auth.specs.declared.activity.Activity.{Activity}
use Rattle.hsm_auth.specs.declared.entry.Ask.TheVariants.{Authorise}
use Rattle.hsm_session.specs.Clear.{IsByOfficers, IsEntryOf, IsGranted}
use Rattle.hsm_session.specs.Runs.{IsRunOf}
use Rattle.hsm_make.specs.Messages.{made_text}
use Rattle.hsm_make.specs.Settings.{made_module}
use Rattle.hsm_make.specs.Summary.{summary_of}
use Rattle.hsm_program.specs.Files.{file_limit}
use Rattle.hsm_program.specs.Words.{Asked, usage, serve, script, check, explain, make}
use Rattle.hsm_config.specs.Configs.{config_in}
use Rattle.hsm_config.specs.declared.configuration.Config.{Config}
use Rattle.hsm_config.specs.declared.configuration.ConfigFault.TheVariants.{NotToml, Rule}
use Rattle.hsm_config.specs.declared.configuration.ConfigFault.TheVariants as fault
use Rattle.hsm_program.specs.Settings.{IsConfig, check_text}
use Rattle.hsm_program.specs.declared.outcome.Outcome.{Outcome}
use Rattle.hsm_program.specs.declared.outcome.Outcome.TheVariants.{Served, Usage, FileFault, SeedFault, ListenFault, OutFault, FileLong, ConfigRefused, ScriptRefused, Memory}

-- `Usage` comes exactly where the words are no command.
abbrev pub AnswersWords : Asked → Outcome → Type 0
AnswersWords (usage place) outcome = outcome ≡ Usage place
AnswersWords (serve config) outcome = (place : ℕ) → outcome ≡ Usage place → ⊥
AnswersWords (script config file) outcome = (place : ℕ) → outcome ≡ Usage place → ⊥
AnswersWords (check config) outcome = (place : ℕ) → outcome ≡ Usage place → ⊥
AnswersWords (explain row) outcome = (place : ℕ) → outcome ≡ Usage place → ⊥
AnswersWords (make count seed) outcome = (place : ℕ) → outcome ≡ Usage place → ⊥

-- what holds of the configuration that the words name, and of whether they name a script's file beside it
abbrev pub OfConfig : Asked → (List ℕ → Bool → Type 0) → Type 0
OfConfig (usage place) P = Unit {0}
OfConfig (serve config) P = P config false
OfConfig (script config file) P = P config true
OfConfig (check config) P = P config false
OfConfig (explain row) P = Unit {0}
OfConfig (make count seed) P = Unit {0}

-- what holds of the configuration and the script's file that the words name
abbrev pub OfScript : Asked → (List ℕ → List ℕ → Type 0) → Type 0
OfScript (usage place) P = Unit {0}
OfScript (serve config) P = Unit {0}
OfScript (script config file) P = P config file
OfScript (check config) P = Unit {0}
OfScript (explain row) P = Unit {0}
OfScript (make count seed) P = Unit {0}

-- what holds of the configuration that the words ask to check
abbrev pub OfCheck : Asked → (List ℕ → Type 0) → Type 0
OfCheck (usage place) P = Unit {0}
OfCheck (serve config) P = Unit {0}
OfCheck (script config file) P = Unit {0}
OfCheck (check config) P = P config
OfCheck (explain row) P = Unit {0}
OfCheck (make count seed) P = Unit {0}

-- what holds of the row that the words name
abbrev pub OfRow : Asked → (RowShape → Type 0) → Type 0
OfRow (usage place) P = Unit {0}
OfRow (serve config) P = Unit {0}
OfRow (script config file) P = Unit {0}
OfRow (check config) P = Unit {0}
OfRow (explain row) P = P row
OfRow (make count seed) P = Unit {0}

-- what holds of the count and the seed of the script that the words ask to make
abbrev pub OfMade : Asked → (ℕ → ℕ → Type 0) → Type 0
OfMade (usage place) P = Unit {0}
OfMade (serve config) P = Unit {0}
OfMade (script config file) P = Unit {0}
OfMade (check config) P = Unit {0}
OfMade (explain row) P = Unit {0}
OfMade (make count seed) P = P count seed

-- what holds where the words name no file
abbrev pub WithoutFile : Asked → Type 0 → Type 0
WithoutFile (usage place) P = P
WithoutFile (serve config) P = Unit {0}
WithoutFile (script config file) P = Unit {0}
WithoutFile (check config) P = Unit {0}
WithoutFile (explain row) P = P
WithoutFile (make count seed) P = P

-- The cause lies with the configuration's file; with that of a script only where the command has one, and where the bytes are a configuration.
abbrev pub OfEitherFile : Bool → List ℕ → Type 0 → Type 0
OfEitherFile false bytes cause = cause
OfEitherFile true bytes cause = cause ⊎ IsConfig bytes

-- The outcome by whether the command has a script's file too, by the name and the bytes of the configuration's file, and the bad name. Whatever comes
-- after the configuration comes only where they are one. Only of a script may the file that is too long, or that could not be opened or read, be another.
abbrev pub AnswersConfig : Bool → List ℕ → List ℕ → List ℕ → Outcome → Type 0
AnswersConfig has_script name bytes bad Served = IsConfig bytes
AnswersConfig has_script name bytes bad SeedFault = IsConfig bytes
AnswersConfig has_script name bytes bad (ListenFault lane) = IsConfig bytes
AnswersConfig has_script name bytes bad OutFault = IsConfig bytes
AnswersConfig has_script name bytes bad (ScriptRefused line) = IsConfig bytes
AnswersConfig has_script name bytes bad (ConfigRefused why) = (length bytes ≤ file_limit) × (config_in bytes ≡ Err why)
AnswersConfig has_script name bytes bad FileLong = OfEitherFile has_script bytes (file_limit < length bytes)
AnswersConfig has_script name bytes bad FileFault = OfEitherFile has_script bytes (bad ≡ kept_name name)
AnswersConfig has_script name bytes bad (Usage place) = ⊥
AnswersConfig has_script name bytes bad Memory = Unit {0}

-- 6 where a lane was cut or closed by a short frame
abbrev pub status_of : ScriptEnd → ℕ
status_of over = if over.cut + over.short == 0 then 0 else 6

-- Each entry of the history that authorises is that of a console text of the script, an `A` with both officers' words.
abbrev pub AuthorisedByOfficers : Module → List Said → List Entry → Type 0
AuthorisedByOfficers m lines history =
    (i : ℕ) (e : Entry) (activity : Activity) (minutes : ℕ)
    → slice_get history i ≡ Some e → e.ask ≡ Authorise activity minutes → IsByOfficers m lines history i activity minutes

-- An answer of the history that shows a clear key or PIN stands at an entry that needs the activity of the row's mark and is answered `Use`. A live
-- grant covers that activity, and a console text of the script, an `A` with both officers' words, gave that grant before.
abbrev pub ShowsGranted : Module → List Said → List Entry → Type 0
ShowsGranted m lines history =
    (i : ℕ) (e : Entry) (side : Place) (moment : ℕ) (message : List ℕ)
    → slice_get history i ≡ Some e → IsEntryOf m history i side moment message → (s : ShowsClear m side message e.granted)
    → IsGranted m lines 0 history i e s.row s.read

-- A run of these lines from the opening ledger comes to this legal history, prints this text and ends so. Each authorisation in it is by a
-- console text of the script with both officers' words, and what is shown in the clear is shown under a grant so given.
pub record IsRun (m : Module) (lines : List Said) (last : List Entry) (text : List ℕ) (over : ScriptEnd) : Type 0 where
  pub told : IsRunOf m [] lines last text over
  pub legal : IsLegal last
  pub authorised : AuthorisedByOfficers m lines last
  pub granted : ShowsGranted m lines last

-- The outcome, the status and what was written, by the module of the configuration and the bytes of the script's file; where a
-- write failed, a part from the front of what the run prints. A fault and want of memory have their causes elsewhere.
abbrev pub AnswersScript : Module → List ℕ → (List ℕ → Type 0) → (List ℕ → Type 0) → ℕ → Outcome → Type 0
AnswersScript m bytes before after status Served =
    (length bytes ≤ file_limit)
    × ((lines : List Said) × (last : List Entry) × (text : List ℕ) × (over : ScriptEnd)
    × (script_of m.hosts bytes ≡ Ok lines) × IsRun m lines last text over × Appends before after text × (status ≡ status_of over))
AnswersScript m bytes before after status OutFault =
    (length bytes ≤ file_limit)
    × ((lines : List Said) × (last : List Entry) × (text : List ℕ) × (over : ScriptEnd)
    × (script_of m.hosts bytes ≡ Ok lines) × IsRun m lines last text over × AppendsFront before after text)
AnswersScript m bytes before after status FileLong = file_limit < length bytes
AnswersScript m bytes before after status (ScriptRefused line) = (length bytes ≤ file_limit) × (script_of m.hosts bytes ≡ Err line)
AnswersScript m bytes before after status (Usage place) = ⊥
AnswersScript m bytes before after status SeedFault = ⊥
AnswersScript m bytes before after status (ListenFault lane) = ⊥
AnswersScript m bytes before after status (ConfigRefused why) = ⊥
AnswersScript m bytes before after status FileFault = Unit {0}
AnswersScript m bytes before after status Memory = Unit {0}

-- The line of a configuration is written and the status is 0, or a part from its front where a write failed; or its file failed, or memory ran out.
abbrev pub AnswersCheck : Config → (List ℕ → Type 0) → (List ℕ → Type 0) → ℕ → Outcome → Type 0
AnswersCheck config before after status Served = Appends before after (check_text config) × (status ≡ 0)
AnswersCheck config before after status OutFault = AppendsFront before after (check_text config)
AnswersCheck config before after status FileFault = Unit {0}
AnswersCheck config before after status Memory = Unit {0}
AnswersCheck config before after status (Usage place) = ⊥
AnswersCheck config before after status SeedFault = ⊥
AnswersCheck config before after status (ListenFault lane) = ⊥
AnswersCheck config before after status FileLong = ⊥
AnswersCheck config before after status (ConfigRefused why) = ⊥
AnswersCheck config before after status (ScriptRefused line) = ⊥

-- A row's lines are written and the status is 0, or a part from their front where a write failed.
abbrev pub AnswersRow : RowShape → (List ℕ → Type 0) → (List ℕ → Type 0) → ℕ → Outcome → Type 0
AnswersRow row before after status Served = Appends before after (explain_text row) × (status ≡ 0)
AnswersRow row before after status OutFault = AppendsFront before after (explain_text row)
AnswersRow row before after status (Usage place) = ⊥
AnswersRow row before after status SeedFault = ⊥
AnswersRow row before after status (ListenFault lane) = ⊥
AnswersRow row before after status FileFault = ⊥
AnswersRow row before after status FileLong = ⊥
AnswersRow row before after status (ScriptRefused line) = ⊥
AnswersRow row before after status (ConfigRefused why) = ⊥
AnswersRow row before after status Memory = ⊥

-- The script that is made of a count and a seed reads, and its run from the opening ledger prints this text.
pub record IsMadeRun (count seed : ℕ) (text : List ℕ) : Type 0 where
  pub lines : List Said
  pub reads : script_of made_module.hosts (made_text count seed) ≡ Ok lines
  pub last : List Entry
  pub over : ScriptEnd
  pub run : IsRun made_module lines last text over

-- The line that sums up the run of the made script is written and the status is 0, or a part from its front where a write failed; or memory ran out.
abbrev pub AnswersMade : ℕ → ℕ → (List ℕ → Type 0) → (List ℕ → Type 0) → ℕ → Outcome → Type 0
AnswersMade count seed before after status Served = (text : List ℕ) × IsMadeRun count seed text × Appends before after (summary_of count text) × (status ≡ 0)
AnswersMade count seed before after status OutFault = (text : List ℕ) × IsMadeRun count seed text × AppendsFront before after (summary_of count text)
AnswersMade count seed before after status Memory = Unit {0}
AnswersMade count seed before after status (Usage place) = ⊥
AnswersMade count seed before after status SeedFault = ⊥
AnswersMade count seed before after status (ListenFault lane) = ⊥
AnswersMade count seed before after status FileFault = ⊥
AnswersMade count seed before after status FileLong = ⊥
AnswersMade count seed before after status (ScriptRefused line) = ⊥
AnswersMade count seed before after status (ConfigRefused why) = ⊥

-- the status of each outcome of a command that is not `serve`; a configuration is not refused for want of memory
abbrev pub HasStatus : ℕ → Outcome → Type 0
HasStatus status Served = (status ≡ 0) ⊎ (status ≡ 6)
HasStatus status (Usage place) = status ≡ 2
HasStatus status FileFault = status ≡ 3
HasStatus status SeedFault = ⊥
HasStatus status (ListenFault lane) = ⊥
HasStatus status OutFault = status ≡ 3
HasStatus status FileLong = status ≡ 4
HasStatus status (ScriptRefused line) = status ≡ 4
HasStatus status (ConfigRefused NotToml) = status ≡ 4
HasStatus status (ConfigRefused (Rule n)) = status ≡ 4
HasStatus status (ConfigRefused fault.Memory) = ⊥
HasStatus status Memory = status ≡ 5

-- nothing was written, but with `Served` and `OutFault`
abbrev pub WritesNothing : (List ℕ → Type 0) → (List ℕ → Type 0) → Outcome → Type 0
WritesNothing before after Served = Unit {0}
WritesNothing before after OutFault = Unit {0}
WritesNothing before after (Usage place) = Stays before after
WritesNothing before after FileFault = Stays before after
WritesNothing before after SeedFault = Stays before after
WritesNothing before after (ListenFault lane) = Stays before after
WritesNothing before after FileLong = Stays before after
WritesNothing before after (ScriptRefused line) = Stays before after
WritesNothing before after (ConfigRefused why) = Stays before after
WritesNothing before after Memory = Stays before after

-- `FileFault` comes only where the count for files rose, and the bad name is that of a file of the command.
abbrev pub FileCause : Asked → ℕ → ℕ → List ℕ → Outcome → Type 0
FileCause (usage place) before after bad outcome = outcome ≡ FileFault → ⊥
FileCause (explain row) before after bad outcome = outcome ≡ FileFault → ⊥
FileCause (make count seed) before after bad outcome = outcome ≡ FileFault → ⊥
FileCause (serve config) before after bad outcome = outcome ≡ FileFault → (Rose before after) × (bad ≡ kept_name config)
FileCause (check config) before after bad outcome = outcome ≡ FileFault → (Rose before after) × (bad ≡ kept_name config)
FileCause (script config file) before after bad outcome = outcome ≡ FileFault → (Rose before after) × ((bad ≡ kept_name config) ⊎ (bad ≡ kept_name file))
