use Rattle.std.proofs.Common.{List, ℕ, ◌++◌, ap, ◌∙◌}
use Rattle.std.specs.Fmt.{decimal}
use Rattle.hsm_answers.specs.Values.{kind_letter, verdict}
use Rattle.hsm_commands.proofs.ListSteps.{note_glued}
use Rattle.hsm_commands.proofs.reply_console.put_note.Goals as goal

pub returns-clause-text : goal.returns-clause-text
returns-clause-text c =
    let n = c.args.note.now in
    note_glued c.args.reply.now (decimal n.number) (decimal n.moment) (kind_letter n.kind) (verdict n.good)
    c.put.new.self c.put_decimal.new.reply c.put-2.new.self c.put_decimal-2.new.reply c.put-3.new.self c.put-4.new.self c.put-5.new.self c.put-6.new.self
    c.put.ensures c.put_decimal.ensures.text c.put-2.ensures c.put_decimal-2.ensures.text c.put-3.ensures
    (c.put-4.ensures ∙ ap (λ (x : List ℕ). c.put-3.new.self ++ x) c.kind_letter.ensures.letter) c.put-5.ensures
    (c.put-6.ensures ∙ ap (λ (x : List ℕ). c.put-5.new.self ++ x) c.verdict.ensures.verdict)
