use Rattle.std.proofs.Common.{◌∙◌, sym, arith}
use Rattle.std.proofs.lemmas.List.{get_or-map, length-map}
use Rattle.hsm_nibbles.specs.Characters.{digit_value}
use Rattle.hsm_nibbles.proofs.Filling.{filled_more}
use Rattle.hsm_answers.proofs.fields.digit_values.Goals as goal

pub loop-i-preserved : goal.loop-i-preserved
loop-i-preserved g c =
    let text = c.args.text.now in
    let long = length-map text digit_value in
    filled_more c.loop-i.invariant _ (omega (arith, long, c.requires, c.loop-i-test.true))
    (c.digit.ensures ∙ sym (get_or-map digit_value text c.loop-i.i 0 0 (omega (arith, c.requires, c.loop-i-test.true))))
