use Rattle.std.proofs.Common.{◌∙◌, ◌+◌, arith, sym, ap, List}
use Rattle.hsm_session.specs.declared.lines.Line.{Line}
use Rattle.hsm_session.specs.Scripts.{lines, lines_from, script_of}
use Rattle.hsm_session.specs.Reading.{all_said}
use Rattle.hsm_session.proofs.ScriptLaws.{after_lines, after_none, read_more}
use Rattle.hsm_session.proofs.lines.read_script.Goals as goal

pub lines-init : goal.lines-init
unfolding script_of
lines-init c =
    let read = lines_from c.args.hosts 1 (lines c.args.script.now) in
    record {
      read = after_none read ∙ ap (λ (first : List Line). after_lines (all_said first) read) (sym c.new-lines.ensures.items);
      number = omega arith;
    }

pub lines-preserved : goal.lines-preserved
lines-preserved c =
    let read = lines_from c.args.hosts (c.lines.number + 1) (lines c.cut_line.result.1.now) in
    let is = rw c.in-Ok-Some.field-0-is at c.in-Ok-Some.ensures in
    record {
      read =
          read_more c.args.hosts (script_of c.args.hosts c.args.script.now) c.lines.lines.items c.in-Ok-Some.line c.lines.rest.now c.cut_line.result.0.now c.cut_line.result.1.now c.lines.number
          c.lines.invariant.read c.cut_line.ensures.lines is
          ∙ ap (λ (first : List Line). after_lines (all_said first) read) (sym c.in-Ok.ensures.items);
      number = omega (arith, c.cut_line.ensures.shorter, c.lines.invariant.number);
    }
