-- What a script that was run says of the bytes of its file.
use Rattle.std.proofs.Common.{◌≡◌, ◌≤◌, ℕ, List, [], length, sym, ap, subst, ◌∙◌, Some, Ok, Err, arith}
use Rattle.std.specs.Prelude.{slice_get}
use Rattle.hsm_auth.specs.declared.activity.Activity.{Activity}
use Rattle.hsm_auth.specs.declared.entry.Ask.TheVariants.{Authorise}
use Rattle.hsm_auth.specs.declared.entry.Entry.{Entry}
use Rattle.hsm_auth.specs.declared.ledger.Ledger.{Ledger}
use Rattle.hsm_auth.specs.History.{IsLegal, StandsFor}
use Rattle.hsm_rows.specs.declared.settings.Module.{Module}
use Rattle.hsm_session.specs.declared.script.ScriptEnd.{ScriptEnd}
use Rattle.hsm_session.specs.declared.script.ScriptFault.{ScriptFault}
use Rattle.hsm_session.specs.declared.script.ScriptFault.TheVariants.{Out}
use Rattle.hsm_session.specs.Clear.{IsByOfficers}
use Rattle.hsm_session.specs.Scripts.{Said, script_of}
use Rattle.hsm_session.specs.Runs.{RunAnswers, IsRunOf}
use Rattle.hsm_program.specs.Files.{file_limit}
use Rattle.hsm_program.specs.Runs.{AnswersScript, IsRun, ShowsGranted, status_of}
use Rattle.hsm_program.specs.declared.outcome.Outcome.{Outcome}
use Rattle.hsm_program.specs.declared.outcome.Outcome.TheVariants.{Served, OutFault}

no_entries_are_legal : IsLegal []
no_entries_are_legal = λ i e is. absurd (cc)

-- a run of a script that reads goes on in a legal history
abbrev pub LegalRuns : Type 0
LegalRuns = (m : Module) (h : List Entry) (script : List ℕ) (lines : List Said) (last : List Entry) (text : List ℕ) (over : ScriptEnd)
    → script_of m.hosts script ≡ Ok lines → IsRunOf m h lines last text over → IsLegal h → IsLegal last

-- each authorisation of a run is by officers' words
abbrev pub OfficersInRuns : Type 0
OfficersInRuns = (m : Module) (h : List Entry) (lines : List Said) (last : List Entry) (text : List ℕ) (over : ScriptEnd)
    → IsRunOf m h lines last text over → (i : ℕ) (e : Entry) (activity : Activity) (minutes : ℕ) → length h ≤ i
    → slice_get last i ≡ Some e → e.ask ≡ Authorise activity minutes → IsByOfficers m lines last i activity minutes

-- what is shown in the clear was granted, in each run from the opening ledger
abbrev pub ClearInRuns : Type 0
ClearInRuns = (m : Module) (lines : List Said) (last : List Entry) (text : List ℕ) (over : ScriptEnd) → IsRunOf m [] lines last text over → ShowsGranted m lines last

pub run_is : LegalRuns → OfficersInRuns → ClearInRuns → (m : Module) (bytes : List ℕ) (lines : List Said) (last : List Entry) (text : List ℕ) (over : ScriptEnd)
    → script_of m.hosts bytes ≡ Ok lines → IsRunOf m [] lines last text over → IsRun m lines last text over
run_is legal officers clear m bytes lines last text over reads told = record {
  told = told;
  legal = legal m [] bytes lines last text over reads told no_entries_are_legal;
  authorised = λ i e activity minutes there asks. officers m [] lines last text over told i e activity minutes (omega arith) there asks;
  granted = clear m lines last text over told;
}

pub served : LegalRuns → OfficersInRuns → ClearInRuns → (m : Module) (bytes script : List ℕ) (over : ScriptEnd) (status : ℕ) (ended : ℕ × Outcome) (old new : Ledger) (before after : List ℕ → Type 0)
    → script ≡ bytes → length bytes ≤ file_limit → StandsFor old [] → RunAnswers m (script_of m.hosts script) old new before after (Ok over)
    → ended ≡ (status, Served) → status ≡ status_of over
    → AnswersScript m bytes before after ended.0 ended.1
served legal officers clear m bytes script over status ended old new before after read fits empty answers is counts =
    let runs = answers.2 [] empty in
    let reads = ap (script_of m.hosts) (sym read) ∙ answers.1 in
    subst (λ (e : ℕ × Outcome). AnswersScript m bytes before after e.0 e.1) (sym is) (
      fits,
      (
        answers.0,
        runs.last,
        runs.text,
        over,
        reads,
        run_is legal officers clear m bytes answers.0 runs.last runs.text over reads runs.told,
        runs.printed,
        counts,
      ),
    )

pub stopped : LegalRuns → OfficersInRuns → ClearInRuns → (m : Module) (bytes script : List ℕ) (fault : ScriptFault) (status : ℕ) (ended : ℕ × Outcome) (old new : Ledger) (before after : List ℕ → Type 0)
    → script ≡ bytes → length bytes ≤ file_limit → StandsFor old [] → RunAnswers m (script_of m.hosts script) old new before after (Err fault) → fault ≡ Out
    → ended ≡ (status, OutFault) → AnswersScript m bytes before after ended.0 ended.1
stopped legal officers clear m bytes script fault status ended old new before after read fits empty answers out is =
    let stop = subst (λ (f : ScriptFault). RunAnswers m (script_of m.hosts script) old new before after (Err f)) out answers in
    let stops = stop.2 [] empty in
    let reads = ap (script_of m.hosts) (sym read) ∙ stop.1 in
    subst (λ (e : ℕ × Outcome). AnswersScript m bytes before after e.0 e.1) (sym is) (
      fits,
      (
        stop.0,
        stops.last,
        stops.text,
        stops.over,
        reads,
        run_is legal officers clear m bytes stop.0 stops.last stops.text stops.over reads stops.told,
        stops.printed,
      ),
    )
