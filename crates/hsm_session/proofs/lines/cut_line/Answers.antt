use Rattle.std.proofs.Common.{◌+◌, arith, add-one}
use Rattle.std.proofs.lemmas.List.{take_rest}
use Rattle.hsm_session.proofs.LineLaws.{lines_at, lines_alone}
use Rattle.hsm_session.proofs.lines.cut_line.Goals as goal

pub returns-then-text-at-eq10-clause-lines : goal.returns-then-text-at-eq10-clause-lines
returns-then-text-at-eq10-clause-lines c =
    rw (take_rest c.args.text.now (c.bytes.at + 1), add-one c.bytes.at)
    (lines_at c.args.text.now c.bytes.at c.bytes.invariant.none (omega arith) (omega arith))

pub returns-clause-lines : goal.returns-clause-lines
returns-clause-lines c = lines_alone c.args.text.now (λ k below. c.bytes.invariant.none k (omega arith)) c.requires
