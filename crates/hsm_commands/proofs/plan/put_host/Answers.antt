use Rattle.std.proofs.Common.{◌≡◌, List, ℕ, Bool, ◌++◌, ◌∙◌, ap, sym, append-nil}
use Rattle.std.specs.Prelude.{[], if◌then◌else◌, is_none}
use Rattle.hsm_auth.specs.declared.entry.Granted.{Granted}
use Rattle.hsm_answers.specs.Values.{values}
use Rattle.hsm_answers.specs.Plans.{fault_at, fields_text}
use Rattle.hsm_commands.specs.Plans.{plan_row, plan_text, written_fields, plan_message}
use Rattle.hsm_commands.proofs.plan.put_host.Goals as goal
use Rattle.hsm_commands.proofs.plan.put_host.Goals.{then-put_code, else-put_code}

pub returns : goal.returns
returns c =
    let m = c.args.module.now in
    let plan = c.args.plan.now in
    let g = c.args.granted.now in
    let row = plan_row plan in
    let coded = c.put_code.new.reply in
    let fields : Granted → List ℕ = fields_text row (plan_message m plan) in
    let put : Bool → List ℕ = λ good. coded ++ (if good then fields g else []) in
    let good = c.put_code.ensures.good in
    let unspaced = ap (λ (b : Bool). coded ++ written_fields b (values (plan_message m plan) g row.terms)) c.requires.host in
    let filled : c.if-put_code.reply ≡ put (is_none (fault_at plan.found.checked g)) =
    elim c.if-put_code.branch [
      | then-put_code w ↦ w.reply-is ∙ (w.put_fields.ensures.text ∙ (unspaced ∙ ap put (sym w.if-put_code.true ∙ good)))
      | else-put_code w ↦ w.reply-is ∙ (sym (append-nil coded) ∙ ap put (sym w.if-put_code.false ∙ good))
    ] in
    c.planned_answer.ensures m row (plan_text plan) plan.found.ask plan.found.checked plan.fields.trailer.now fields g c.args.reply.now coded c.if-put_code.reply c.put.new.self
    c.requires.host c.requires.plan.planned c.put_code.ensures.text filled c.put.ensures
