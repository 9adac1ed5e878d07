use Rattle.std.proofs.Common.{◌≡◌, ◌<◌, ℕ, List, length, take, filter, get_or, arith, length-take-le}
use Rattle.std.proofs.lemmas.Bool.{lt-ltb, le-ltb}
use Rattle.hsm_types.specs.Pins.{is_decimal}
use Rattle.hsm_verify.proofs.ValueLaws.{holds_more, holds_at, filter_short, filter_yes, filter_no}
use Rattle.hsm_verify.proofs.selection.take_decimals.Goals as goal
use Rattle.hsm_verify.proofs.selection.take_decimals.Goals.{then-nibbles-i-lt10, else-nibbles-i-lt10}

short : (ns : List ℕ) (i count : ℕ) → i < 16 → length ns ≡ 16 → count ≡ length (filter is_decimal (take i ns)) → count < 16
short ns i count lt long e = omega (arith, filter_short is_decimal (take i ns), length-take-le i ns (omega arith))

pub bounds-out-count : goal.bounds-out-count
bounds-out-count c = short c.args.nibbles.now c.loop-i.i c.loop-i.count c.loop-i-test.true c.told-nibbles c.loop-i.invariant.count_is

pub loop-i-preserved : goal.loop-i-preserved
loop-i-preserved c =
    let ns = c.args.nibbles.now in
    let i = c.loop-i.i in
    let within : i < length ns = omega arith in
    elim c.if-nibbles-i-lt10.branch [
      | then-nibbles-i-lt10 w ↦
          holds_at (holds_more c.loop-i.invariant (get_or ns i 0) (short ns i c.loop-i.count c.loop-i-test.true c.told-nibbles c.loop-i.invariant.count_is)) _ _ _
          (filter_yes is_decimal ns i within (lt-ltb (get_or ns i 0) 10 w.if-nibbles-i-lt10.true)) w.out-is w.count-is
      | else-nibbles-i-lt10 w ↦
          holds_at c.loop-i.invariant _ _ _ (filter_no is_decimal ns i within (le-ltb (get_or ns i 0) 10 w.if-nibbles-i-lt10.false)) w.out-is w.count-is
    ]
