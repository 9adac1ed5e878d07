-- The configuration that bytes say is one.
use Rattle.std.proofs.Common.{◌≡◌, List, ℕ, ap, subst, ◌∙◌}
use Rattle.hsm_rows.specs.declared.settings.Module.{Module}
use Rattle.hsm_config.specs.declared.configuration.Config.{Config}
use Rattle.hsm_program.specs.Settings.{HoldsConfig, run_module}
use Rattle.hsm_program.specs.Runs.{AnswersScript}
use Rattle.hsm_program.specs.declared.outcome.Outcome.{Outcome}

one_config : (bytes : List ℕ) (a b : Config) → HoldsConfig bytes a → HoldsConfig bytes b → a ≡ b
one_config bytes a b first second = cc (first.1, second.1)

-- the answer under the module of the configuration that was read is that under the one that the bytes say
pub same_answer : (settings bytes : List ℕ) (read config : Config) (m : Module) (before after : List ℕ → Type 0) (status : ℕ) (outcome : Outcome)
    → HoldsConfig settings read → HoldsConfig settings config → m ≡ run_module read → AnswersScript m bytes before after status outcome
    → AnswersScript (run_module config) bytes before after status outcome
same_answer settings bytes read config m before after status outcome says_read says m_is answers =
    subst (λ (n : Module). AnswersScript n bytes before after status outcome) (m_is ∙ ap run_module (one_config settings read config says_read says)) answers
