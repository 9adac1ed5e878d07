use Rattle.std.proofs.Common.{◌≡◌, ℕ, List, Bool, true, false, ◌++◌, Option, Some, None, ap, sym, ◌∙◌, append_assoc}
use Rattle.std.specs.Prelude.{codes, if◌then◌else◌}
use Rattle.hsm_auth.specs.declared.entry.Granted.{Granted}
use Rattle.hsm_rows.specs.declared.settings.Module.{Module}
use Rattle.hsm_rows.specs.Texts.{two_digits}
use Rattle.hsm_rows.specs.Reading.{is_console}
use Rattle.hsm_answers.specs.Answers.{answer, is_full}
use Rattle.hsm_answers.specs.Plans.{fault_at}
use Rattle.hsm_answers.specs.Values.{values}
use Rattle.hsm_commands.specs.declared.plan.Plan.{Plan}
use Rattle.hsm_commands.specs.Plans.{plan_row, plan_text, written_fields, IsPlanOf, plan_message}
use Rattle.hsm_commands.proofs.ConsoleSteps.{console_answered, console_text, text_after}
use Rattle.hsm_commands.proofs.plan.put_console.Goals as goal

-- the values of the reply fields
abbrev plan_values : Module → Plan → Granted → List (List ℕ)
plan_values m p g = values (plan_message m p) g (plan_row p).terms

-- the answer, where the words are refused or not, and there is a refusal or none
worded : (m : Module) (p : Plan) (g : Granted) → is_console (plan_row p) ≡ true → IsPlanOf m p → (refused : Bool) → p.wrong_words ≡ refused
    → answer m (plan_row p) (plan_text p) g ≡ console_text refused p.found.checked g (plan_values m p g)
worded m p g console h refused e = console_answered m p g console h ∙ ap (λ (b : Bool). console_text b p.found.checked g (plan_values m p g)) e

faulted : (m : Module) (p : Plan) (g : Granted) → is_console (plan_row p) ≡ true → IsPlanOf m p → p.wrong_words ≡ false → (fault : Option ℕ) → fault ≡ fault_at p.found.checked g
    → answer m (plan_row p) (plan_text p) g ≡ text_after fault g (plan_values m p g)
faulted m p g console h good fault e = worded m p g console h false good ∙ ap (λ (o : Option ℕ). text_after o g (plan_values m p g)) (sym e)

pub returns-then-plan : goal.returns-then-plan
returns-then-plan c =
    c.put.ensures ∙ ap (λ (x : List ℕ). c.args.reply.now ++ x) (sym (worded c.args.module.now c.args.plan.now c.args.granted.now c.requires.console c.requires.plan true c.if-plan.true))

pub returns-in-Some : goal.returns-in-Some
returns-in-Some c =
    let old = c.args.reply.now in
    let digits = two_digits c.in-Some.code.0 in
    let text : (old ++ codes "NO ") ++ digits ≡ old ++ (codes "NO " ++ digits) = append_assoc old (codes "NO ") digits in
    c.put-in-Some-2.ensures
    ∙ (ap (λ (x : List ℕ). c.put-in-Some.new.self ++ x) c.digits.ensures
    ∙ (ap (λ (x : List ℕ). x ++ digits) c.put-in-Some.ensures
    ∙ (text
    ∙ ap (λ (x : List ℕ). old ++ x)
    (sym (faulted c.args.module.now c.args.plan.now c.args.granted.now c.requires.console c.requires.plan c.if-plan.false (Some c.in-Some.code.0) c.in-Some.ensures)))))

-- the text of no refusal, where there is room for a grant or none
good : (g : Granted) (vs : List (List ℕ)) (full : Bool) → is_full g ≡ full → text_after None g vs ≡ (if full then codes "NO FULL" else codes "OK" ++ written_fields true vs)
good g vs full e = ap (λ (b : Bool). if b then codes "NO FULL" else codes "OK" ++ written_fields true vs) e

pub returns-then-is_full : goal.returns-then-is_full
returns-then-is_full c =
    let m = c.args.module.now in
    let p = c.args.plan.now in
    let g = c.args.granted.now in
    c.put-then-is_full.ensures
    ∙ ap (λ (x : List ℕ). c.args.reply.now ++ x)
    (sym (faulted m p g c.requires.console c.requires.plan c.if-plan.false None c.in-None.ensures ∙ good g (plan_values m p g) true (sym c.is_full.ensures ∙ c.if-is_full.true)))

pub returns-else-is_full : goal.returns-else-is_full
returns-else-is_full c =
    let m = c.args.module.now in
    let p = c.args.plan.now in
    let g = c.args.granted.now in
    let old = c.args.reply.now in
    let fields = written_fields true (plan_values m p g) in
    c.put_fields.ensures.text
    ∙ (ap (λ (b : Bool). c.put-in-None.new.self ++ written_fields b (plan_values m p g)) c.requires.console
    ∙ (ap (λ (x : List ℕ). x ++ fields) c.put-in-None.ensures
    ∙ (append_assoc old (codes "OK") fields
    ∙ ap (λ (x : List ℕ). old ++ x)
    (sym (faulted m p g c.requires.console c.requires.plan c.if-plan.false None c.in-None.ensures ∙ good g (plan_values m p g) false (sym c.is_full.ensures ∙ c.if-is_full.false))))))
