use Rattle.std.proofs.Common.{◌≡◌, ◌+◌, ◌*◌, ◌≤◌, ◌++◌, length, drop, map}
use Rattle.hsm_answers.specs.Values.{note_text, spaced}
use Rattle.hsm_commands.proofs.reply_console.put_each_note.Given as goal

pub record Invariant (l : goal.Live-loop-note) : Type 0 where
  pub text : l.reply ++ spaced (map note_text (drop l.note-index l.notes)) ≡ l.initial.reply ++ spaced (map note_text l.notes)
  pub grown : length l.reply ≤ length l.initial.reply + 100 * l.note-index

abbrev pub invariant-loop-note : goal.invariant-loop-note
invariant-loop-note l = Invariant l
