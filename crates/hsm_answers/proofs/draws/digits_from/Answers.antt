use Rattle.std.proofs.Common.{◌≡◌, ◌<◌, ◌++◌, ◌∷◌, [], ◌%◌, ◌∙◌, ℕ, List, length, ap₂, sym, arith, length-set}
use Rattle.std.proofs.lemmas.List.{take_more_set}
use Rattle.hsm_answers.proofs.DrawSteps.{digits_more}
use Rattle.hsm_answers.proofs.draws.digits_from.Goals as goal

pub loop-i-preserved : goal.loop-i-preserved
loop-i-preserved c =
    let i = c.loop-i.i in
    let out = c.loop-i.out in
    let y = c.word.result % 10 in
    let size : length out ≡ 12 = c.loop-i.invariant.0 in
    let within : i < length out = omega (arith, size, c.requires.most, c.loop-i-test.true) in (
      length-set out i y ∙ size,
      take_more_set out i y within
          ∙ (ap₂ (λ (xs : List ℕ) (w : ℕ). xs ++ (w % 10) ∷ []) c.loop-i.invariant.1 c.word.ensures ∙ sym (digits_more c.args.module.now c.args.place i)),
    )
