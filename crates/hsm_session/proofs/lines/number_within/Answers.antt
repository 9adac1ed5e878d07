use Rattle.std.proofs.Common.{◌+◌, ◌<◌, arith, sym}
use Rattle.hsm_rows.specs.Forms.{decimal_from}
use Rattle.hsm_session.proofs.NumberLaws.{decimal_from-more, decimal_from-front, number_above}
use Rattle.hsm_session.proofs.lines.number_within.Goals as goal

pub returns-then-number-most-clause-value : goal.returns-then-number-most-clause-value
returns-then-number-most-clause-value c =
    let more = decimal_from-more c.args.text.now c.digits.digit-index (omega arith) in
    let above : c.args.most < decimal_from 0 c.args.text.now =
    omega (arith, more, c.digits.invariant.number, c.from.ensures, c.saturating_sub.ensures, c.if-number-most.true, decimal_from-front c.args.text.now (c.digits.digit-index + 1)) in
    sym (number_above c.args.most c.args.text.now above)

pub digits-preserved : goal.digits-preserved
digits-preserved c = record {
  number = omega (arith, c.digits.invariant.number, c.from.ensures, c.saturating_sub.ensures, decimal_from-more c.args.text.now c.digits.digit-index (omega arith));
  within = c.if-number-most.false;
}
