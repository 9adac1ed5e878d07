use Rattle.std.proofs.Common.{◌≡◌, ◌+◌, ◌≤◌, length}
use Rattle.hsm_session.specs.Scripts.{lines, lines_from, script_of}
use Rattle.hsm_session.specs.Reading.{all_said}
use Rattle.hsm_session.proofs.ScriptLaws.{after_lines}
use Rattle.hsm_session.proofs.lines.read_script.Given as goal

abbrev pub invariant-lines : goal.invariant-lines
invariant-lines l = record {
  read : script_of l.hosts l.script ≡ after_lines (all_said l.lines.items) (lines_from l.hosts l.number (lines l.rest));
  number : l.number + length l.rest ≤ length l.script + 1;
}

abbrev pub decreases-lines : goal.decreases-lines
decreases-lines l = length l.rest
