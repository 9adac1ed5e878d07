-- What the run of a made script comes to.
use Rattle.std.proofs.Common.{◌≡◌, ℕ, List, [], sym, ap, subst, ◌∙◌, Ok, Err, refl}
use Rattle.hsm_auth.specs.declared.ledger.Ledger.{Ledger}
use Rattle.hsm_auth.specs.History as history
use Rattle.hsm_rows.specs.declared.settings.Module.{Module}
use Rattle.hsm_config.specs.Configs.{module_of}
use Rattle.hsm_make.specs.Messages.{made_text}
use Rattle.hsm_make.specs.Settings.{made_config, made_module}
use Rattle.law_made_scripts.specs.Said.{made_said}
use Rattle.hsm_session.specs.declared.script.ScriptEnd.{ScriptEnd}
use Rattle.hsm_session.specs.declared.script.ScriptFault.{ScriptFault}
use Rattle.hsm_session.specs.declared.script.ScriptFault.TheVariants.{Line}
use Rattle.hsm_session.specs.Runs.{RunAnswers}
use Rattle.hsm_session.specs.Scripts.{script_of}
use Rattle.hsm_tally.specs.Tallies.{StandsFor, TallyState}
use Rattle.hsm_program.specs.Runs.{IsMadeRun, IsRun}
use Rattle.hsm_program.proofs.ScriptLaws.{ClearInRuns, LegalRuns, OfficersInRuns, run_is}

one_host : made_module.hosts ≡ 1
unfolding module_of made_config
one_host = refl

-- each made script reads
abbrev pub MadeRead : Type 0
MadeRead = (count seed : ℕ) → script_of 1 (made_text count seed) ≡ Ok (made_said count seed)

reads_under : MadeRead → (count seed : ℕ) (m : Module) (script : List ℕ) → m ≡ made_module → script ≡ made_text count seed
    → script_of m.hosts script ≡ Ok (made_said count seed)
reads_under read count seed m script module_is script_is =
    ap (λ (n : Module). script_of n.hosts script) module_is ∙ (ap (λ (hosts : ℕ). script_of hosts script) one_host ∙ (ap (script_of 1) script_is ∙ read count seed))

-- the tally stands for what the run prints
pub made_run : MadeRead → LegalRuns → OfficersInRuns → ClearInRuns → (count seed : ℕ) (m : Module) (script : List ℕ) (over : ScriptEnd) (old new : Ledger) (before after : TallyState)
    → m ≡ made_module → script ≡ made_text count seed → history.StandsFor old [] → StandsFor before []
    → RunAnswers m (script_of m.hosts script) old new (StandsFor before) (StandsFor after) (Ok over)
    → (text : List ℕ) × IsMadeRun count seed text × StandsFor after text
made_run read legal officers clear count seed m script over old new before after module_is script_is empty nothing answers =
    let runs = answers.2 [] empty in
    let run = run_is legal officers clear m script answers.0 runs.last runs.text over answers.1 runs.told in
    let here : script_of made_module.hosts (made_text count seed) ≡ Ok answers.0 =
    ap (λ (n : Module). script_of n.hosts (made_text count seed)) (sym module_is) ∙ (ap (script_of m.hosts) (sym script_is) ∙ answers.1) in (
      runs.text,
      record {
        lines = answers.0;
        reads = here;
        last = runs.last;
        over = over;
        run = subst (λ (n : Module). IsRun n answers.0 runs.last runs.text over) module_is run;
      },
      runs.printed [] nothing,
    )

-- a made script has no line that does not read
pub no_line : MadeRead → (count seed : ℕ) (m : Module) (script : List ℕ) (fault : ScriptFault) (old new : Ledger) (before after : List ℕ → Type 0) {line : ℕ}
    → m ≡ made_module → script ≡ made_text count seed → RunAnswers m (script_of m.hosts script) old new before after (Err fault) → fault ≡ Line line → ⊥
no_line read count seed m script fault old new before after module_is script_is answers is =
    let refused = subst (λ (f : ScriptFault). RunAnswers m (script_of m.hosts script) old new before after (Err f)) is answers in
    let reads = reads_under read count seed m script module_is script_is in cc (reads, refused.0)
