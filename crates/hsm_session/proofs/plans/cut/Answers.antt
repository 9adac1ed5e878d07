use Rattle.std.proofs.Common.{ℕ, take, drop, List, sym, ap, ◌∙◌}
use Rattle.std.proofs.lemmas.List.{drop-drop}
use Rattle.std.proofs.lemmas.List.Folds.{length-prefix_len}
use Rattle.hsm_auth.specs.declared.activity.Place.{Place}
use Rattle.hsm_answers.specs.Messages.{command_of, text_after}
use Rattle.hsm_rows.specs.Forms.{is_no_space}
use Rattle.hsm_session.proofs.plans.cut.Goals as goal

pub returns-in-Host-clause-text : goal.returns-in-Host-clause-text
returns-in-Host-clause-text c =
    let m = c.args.module.now in
    let message = c.args.message.now in
    c.split_at-in-Host.ensures.back ∙ ap (λ (bytes : List ℕ). drop 2 bytes) (c.split_at.ensures.back ∙ ap (λ (n : ℕ). drop n message) c.from.ensures) ∙ drop-drop 2 m.header message
    ∙ ap (λ (kind : Place). text_after m kind message) (sym c.in-Host.is)

pub returns-in-Console-clause-code : goal.returns-in-Console-clause-code
returns-in-Console-clause-code c =
    let m = c.args.module.now in
    let message = c.args.message.now in
    c.split_at-in-Console.ensures.front ∙ ap (λ (n : ℕ). take n message) c.token_run.ensures.run
    ∙ ap (λ (kind : Place). command_of m kind message) (sym c.in-Console.is)

pub returns-in-Console-clause-text : goal.returns-in-Console-clause-text
returns-in-Console-clause-text c =
    let m = c.args.module.now in
    let message = c.args.message.now in
    c.split_at-in-Console.ensures.back ∙ ap (λ (n : ℕ). drop n message) (sym (length-prefix_len is_no_space message ∙ sym c.token_run.ensures.run))
    ∙ ap (λ (kind : Place). text_after m kind message) (sym c.in-Console.is)
