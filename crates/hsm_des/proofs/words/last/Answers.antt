use Rattle.std.proofs.Common.{◌≡◌, ℕ, ◌+◌, ◌*◌, ◌%◌, ◌^◌, ◌∙◌, ap₂, sym, bit_or, arith}
use Rattle.hsm_des.specs.Words.{upper_exchanged, lower_exchanged}
use Rattle.hsm_des.proofs.Exchanges.{left_of, right_of, final_left1, final_right1, final_left2, final_right2, final_left3, final_right3, final_left4, final_right4, final_left5, final_right5, final_word}
use Rattle.hsm_des.proofs.words.last.Goals as goal

pub returns : goal.returns
unfolding final_left1 final_right1 final_left2 final_right2 final_left3 final_right3 final_left4 final_right4 final_left5 final_right5
returns c =
    let x = c.args.left * 2 ^ 32 + c.args.right in
    let left_0 = sym (left_of c.args.left c.args.right c.ranges.right.fits) in
    let right_0 = sym (right_of c.args.left c.args.right c.ranges.right.fits) in
    let left_1 : c.exchange-left1.result.0 ≡ final_left1 x = c.exchange-left1.ensures.upper ∙ ap₂ (upper_exchanged 1 1431655765) left_0 right_0 in
    let right_1 : c.exchange-left1.result.1 ≡ final_right1 x = c.exchange-left1.ensures.lower ∙ ap₂ (lower_exchanged 1 1431655765) left_0 right_0 in
    let right_2 : c.exchange-right2.result.0 ≡ final_right2 x = c.exchange-right2.ensures.upper ∙ ap₂ (upper_exchanged 8 16711935) right_1 left_1 in
    let left_2 : c.exchange-right2.result.1 ≡ final_left2 x = c.exchange-right2.ensures.lower ∙ ap₂ (lower_exchanged 8 16711935) right_1 left_1 in
    let right_3 : c.exchange-right3.result.0 ≡ final_right3 x = c.exchange-right3.ensures.upper ∙ ap₂ (upper_exchanged 2 858993459) right_2 left_2 in
    let left_3 : c.exchange-right3.result.1 ≡ final_left3 x = c.exchange-right3.ensures.lower ∙ ap₂ (lower_exchanged 2 858993459) right_2 left_2 in
    let left_4 : c.exchange-left4.result.0 ≡ final_left4 x = c.exchange-left4.ensures.upper ∙ ap₂ (upper_exchanged 16 65535) left_3 right_3 in
    let right_4 : c.exchange-left4.result.1 ≡ final_right4 x = c.exchange-left4.ensures.lower ∙ ap₂ (lower_exchanged 16 65535) left_3 right_3 in
    let left_5 : c.exchange-left5.result.0 ≡ final_left5 x = c.exchange-left5.ensures.upper ∙ ap₂ (upper_exchanged 4 252645135) left_4 right_4 in
    let right_5 : c.exchange-left5.result.1 ≡ final_right5 x = c.exchange-left5.ensures.lower ∙ ap₂ (lower_exchanged 4 252645135) left_4 right_4 in
    ap₂ (λ (l r : ℕ). bit_or (l * 2 ^ 32 % 2 ^ 64) r) c.from.ensures c.from-2.ensures
    ∙ final_word c.args.left c.args.right c.ranges.left.fits c.ranges.right.fits _ _ (omega arith) (omega arith) left_5 right_5
