use Rattle.std.proofs.Common.{◌∙◌, sym, get_or, arith}
use Rattle.std.proofs.lemmas.List.Sums.{prefix_len_is}
use Rattle.std.proofs.lemmas.List.Folds.{length-prefix_len}
use Rattle.std.proofs.lemmas.Bool.{le-ltb}
use Rattle.hsm_types.specs.Pins.{is_decimal}
use Rattle.hsm_pinblock.proofs.reading.decimal_front.Goals as goal

pub returns-then-nibbles-i-ge10 : goal.returns-then-nibbles-i-ge10
returns-then-nibbles-i-ge10 c =
    let x = c.args.nibbles.now in
    let i = c.loop-i.i in
    sym (length-prefix_len is_decimal x ∙ prefix_len_is is_decimal x i 0 (omega arith) c.loop-i.invariant (λ _. le-ltb (get_or x i 0) 10 c.if-nibbles-i-ge10.true))

pub returns : goal.returns
returns c =
    let x = c.args.nibbles.now in
    sym (length-prefix_len is_decimal x ∙ prefix_len_is is_decimal x 16 0 (omega arith) (λ k h. c.loop-i.invariant k (omega arith)) (λ h. absurd (omega arith)))
