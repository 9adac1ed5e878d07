-- The answer of a host message, from what its plan keeps.
use Rattle.std.proofs.Common.{◌≡◌, ℕ, false, List, [], ◌++◌, refl, sym, ap, ◌∙◌, append_assoc}
use Rattle.std.specs.Prelude.{Option, Some, None, is_none, if◌then◌else◌}
use Rattle.hsm_auth.specs.declared.entry.Ask.{Ask}
use Rattle.hsm_auth.specs.declared.entry.Granted.{Granted}
use Rattle.hsm_rows.specs.declared.settings.Module.{Module}
use Rattle.hsm_rows.specs.Table.{RowShape}
use Rattle.hsm_rows.specs.Reading.{is_console}
use Rattle.hsm_answers.specs.declared.plans.Checked.{Checked}
use Rattle.hsm_answers.specs.Answers.{answer}
use Rattle.hsm_answers.specs.Plans.{IsPlanned, fields_after, fault_at, code_text}
use Rattle.hsm_answers.proofs.AnswerSteps.{answered}

-- the reply fields follow where there is no refusal
fields_good : (fault : Option ℕ) (fields : List ℕ) → (if is_none fault then fields else []) ≡ fields_after fault fields
fields_good None fields = refl
fields_good (Some code) fields = refl

-- three parts appended one after another
glued : (old reply code fields trailer x y z : List ℕ) → x ≡ old ++ (reply ++ code) → y ≡ x ++ fields → z ≡ y ++ trailer → z ≡ old ++ (reply ++ (code ++ (fields ++ trailer)))
glued old reply code fields trailer x y z ex ey ez =
    ez
    ∙ (ap (λ (v : List ℕ). v ++ trailer) (ey ∙ ap (λ (v : List ℕ). v ++ fields) ex)
    ∙ simp append_assoc)

pub answered_planned : (m : Module) (row : RowShape) (text : List ℕ) (ask : Ask) (checked : Checked) (trailer : List ℕ) (fields : Granted → List ℕ)
    (g : Granted) (old coded filled whole : List ℕ)
    → is_console row ≡ false → IsPlanned m row text ask checked trailer fields
    → coded ≡ old ++ (row.reply ++ code_text (fault_at checked g))
    → filled ≡ coded ++ (if is_none (fault_at checked g) then fields g else [])
    → whole ≡ filled ++ trailer
    → whole ≡ old ++ answer m row text g
answered_planned m row text ask checked trailer fields g old coded filled whole host p ex ey ez =
    let fault = fault_at checked g in
    glued old row.reply (code_text fault) (fields_after fault (fields g)) trailer coded filled whole
    ex (ey ∙ ap (λ (x : List ℕ). coded ++ x) (fields_good fault (fields g))) ez
    ∙ ap (λ (x : List ℕ). old ++ x) (sym (answered m row text g checked (fields g) trailer host p.checks (p.answers g)))
