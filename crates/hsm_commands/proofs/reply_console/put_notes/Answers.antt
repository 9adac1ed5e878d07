use Rattle.std.proofs.Common.{List, ◌++◌, ap, ◌∙◌, map}
use Rattle.hsm_auth.specs.declared.entry.Note.{Note}
use Rattle.hsm_answers.specs.Values.{note_text, counted}
use Rattle.hsm_commands.proofs.ListSteps.{listed}
use Rattle.hsm_commands.proofs.reply_console.put_notes.Goals as goal

pub returns-clause-text : goal.returns-clause-text
returns-clause-text c =
    listed note_text c.notes_of-notes.result.now c.args.reply.now c.put_decimal.new.reply c.put_each_note.new.reply c.put_decimal.ensures.text c.put_each_note.ensures.text
    ∙ ap (λ (xs : List Note). c.args.reply.now ++ counted (map note_text xs)) c.notes_of-notes.ensures.notes
