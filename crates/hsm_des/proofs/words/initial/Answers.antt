use Rattle.std.proofs.Common.{◌≡◌, ◌∙◌, ap, ap₂, refl}
use Rattle.hsm_des.specs.Bits.{bits}
use Rattle.hsm_des.specs.Words.{upper_exchanged, lower_exchanged}
use Rattle.hsm_des.proofs.Exchanges.{left1, right1, left2, right2, left3, right3, left4, right4, left5, right5, left5_bits, right5_bits}
use Rattle.hsm_des.proofs.words.initial.Goals as goal

pub returns : goal.returns
unfolding left1 right1 left2 right2 left3 right3 left4 right4 left5 right5
returns c =
    let x = c.args.block in
    let left_1 : c.exchange-left1.result.0 ≡ left1 x = c.exchange-left1.ensures.upper ∙ ap₂ (upper_exchanged 4 252645135) refl refl in
    let right_1 : c.exchange-left1.result.1 ≡ right1 x = c.exchange-left1.ensures.lower ∙ ap₂ (lower_exchanged 4 252645135) refl refl in
    let left_2 : c.exchange-left2.result.0 ≡ left2 x = c.exchange-left2.ensures.upper ∙ ap₂ (upper_exchanged 16 65535) left_1 right_1 in
    let right_2 : c.exchange-left2.result.1 ≡ right2 x = c.exchange-left2.ensures.lower ∙ ap₂ (lower_exchanged 16 65535) left_1 right_1 in
    let right_3 : c.exchange-right3.result.0 ≡ right3 x = c.exchange-right3.ensures.upper ∙ ap₂ (upper_exchanged 2 858993459) right_2 left_2 in
    let left_3 : c.exchange-right3.result.1 ≡ left3 x = c.exchange-right3.ensures.lower ∙ ap₂ (lower_exchanged 2 858993459) right_2 left_2 in
    let right_4 : c.exchange-right4.result.0 ≡ right4 x = c.exchange-right4.ensures.upper ∙ ap₂ (upper_exchanged 8 16711935) right_3 left_3 in
    let left_4 : c.exchange-right4.result.1 ≡ left4 x = c.exchange-right4.ensures.lower ∙ ap₂ (lower_exchanged 8 16711935) right_3 left_3 in
    let left_5 : c.exchange.result.0 ≡ left5 x = c.exchange.ensures.upper ∙ ap₂ (upper_exchanged 1 1431655765) left_4 right_4 in
    let right_5 : c.exchange.result.1 ≡ right5 x = c.exchange.ensures.lower ∙ ap₂ (lower_exchanged 1 1431655765) left_4 right_4 in
    record {
      left = ap (bits 32) left_5 ∙ left5_bits x c.ranges.block.fits;
      right = ap (bits 32) right_5 ∙ right5_bits x c.ranges.block.fits;
    }
