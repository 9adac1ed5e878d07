use Rattle.std.proofs.Common.{◌≡◌, ◌<◌, ◌-◌, ◌++◌, ◌∷◌, [], ◌∙◌, ℕ, List, length, ap, ap₂, sym, arith, length-set, take-append-drop}
use Rattle.std.proofs.lemmas.List.{take_more_set, drop-set-lt}
use Rattle.hsm_pinblock.specs.Blocks.{permits_fill}
use Rattle.hsm_answers.specs.Draws.{fill_nibble}
use Rattle.hsm_answers.proofs.DrawSteps.{fill_more, fill_permitted}
use Rattle.hsm_answers.proofs.draws.draw_fill.Goals as goal

pub loop-i-preserved : goal.loop-i-preserved
loop-i-preserved c =
    let i = c.loop-i.i in
    let out = c.loop-i.out in
    let y = c.fill_nibble.result in
    let format = c.args.format in
    let size : length out ≡ 14 = c.loop-i.invariant.0 in
    let before : i < c.args.count = omega (arith, c.loop-i-test.true) in
    let within : i < length out = omega (arith, size, c.requires.most, before) in (
      length-set out i y ∙ size,
      take_more_set out i y within
          ∙ (ap₂ (λ (xs : List ℕ) (w : ℕ). xs ++ w ∷ []) c.loop-i.invariant.1 (c.fill_nibble.ensures ∙ ap (fill_nibble format) c.word.ensures)
          ∙ sym (fill_more c.args.module.now format c.args.place i)),
      drop-set-lt c.args.count out i y before ∙ c.loop-i.invariant.2,
    )

pub returns-clause-fill : goal.returns-clause-fill
returns-clause-fill c =
    let done : c.loop-i.i ≡ c.args.count = omega arith in
    sym (take-append-drop c.args.count c.loop-i.out)
    ∙ ap₂ (λ (xs ys : List ℕ). xs ++ ys) (let h = c.loop-i.invariant.1 in rw done at h) c.loop-i.invariant.2

pub returns-clause-permitted : goal.returns-clause-permitted
returns-clause-permitted c =
    ap (permits_fill c.args.format) (returns-clause-fill c)
    ∙ fill_permitted c.args.module.now c.args.format c.args.place c.args.count (14 - c.args.count)
