use Rattle.std.proofs.Common.{◌≡◌, ◌<◌, ◌≤◌, ◌∙◌, ℕ, List, [], ◌∷◌, ◌++◌, length, get_or, take, ap, sym, arith, length-set, subst}
use Rattle.std.proofs.lemmas.List.{take_more_set, drop-set-lt}
use Rattle.std.specs.Int.Digits.{AllBelowBase}
use Rattle.hsm_verify.specs.Values.{offset_digits, offset_digit}
use Rattle.hsm_verify.proofs.ValueBounds.{offset-below}
use Rattle.hsm_verify.proofs.ValueLaws.{offset_digits_more, offset_whole, pin_most}
use Rattle.hsm_verify.proofs.offsets.offset.Goals as goal

pub loop-i-preserved : goal.loop-i-preserved
loop-i-preserved c =
    let i = c.loop-i.i in
    let out = c.loop-i.out in
    let pin = c.digits-digits.result.now in
    let natural = c.args.natural.now in
    let y = offset_digit (get_or pin i 0) (get_or natural i 0) in
    let most = pin_most c.args.pin.now c.digits-digits.ensures.pin in
    let same : length pin ≡ length c.args.pin.now = ap length c.digits-digits.ensures.digits in
    let check : c.args.check ≤ length c.args.pin.now = c.requires in
    let size : length out ≡ 12 = c.loop-i.invariant.0 in
    let before : i < c.args.check = omega arith in (
      length-set out i y ∙ c.loop-i.invariant.0,
      take_more_set out i y (omega arith) ∙ ap (λ (xs : List ℕ). xs ++ y ∷ []) c.loop-i.invariant.1 ∙ sym (offset_digits_more pin natural i (omega arith) (omega arith)),
      drop-set-lt c.args.check out i y before ∙ c.loop-i.invariant.2,
    )

pub returns-clause-value : goal.returns-clause-value
returns-clause-value c =
    let pin = c.args.pin.now in
    let natural = c.args.natural.now in
    let most = pin_most pin c.digits-digits.ensures.pin in
    let check : c.args.check ≤ length pin = c.requires in
    offset_whole natural pin c.loop-i.out c.args.check c.loop-i.i (omega arith) (omega arith) c.loop-i.invariant.0 (omega arith)
    (c.loop-i.invariant.1 ∙ ap (λ (xs : List ℕ). offset_digits (take c.loop-i.i xs) (take c.loop-i.i natural)) c.digits-digits.ensures.digits)
    c.loop-i.invariant.2

pub returns-clause-bounds : goal.returns-clause-bounds
returns-clause-bounds c =
    let P : List ℕ → Type 0 = λ xs. AllBelowBase 16 xs in
    subst P (sym (returns-clause-value c)) (offset-below c.args.natural.now c.args.pin.now c.args.check)
