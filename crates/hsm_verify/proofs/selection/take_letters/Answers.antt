use Rattle.std.proofs.Common.{◌≡◌, ◌<◌, ◌≤◌, ◌-◌, ℕ, List, length, get_or, not, ap, true, false, arith}
use Rattle.std.proofs.lemmas.Bool.{lt-ltb, le-ltb}
use Rattle.hsm_verify.specs.Values.{is_letter}
use Rattle.hsm_verify.proofs.ValueLaws.{holds_more, holds_at, selected_to, selected_room, selected_yes, selected_no, selected_all}
use Rattle.hsm_verify.proofs.selection.take_letters.Goals as goal
use Rattle.hsm_verify.proofs.selection.take_letters.Goals.{then-nibbles-i-ge10, else-nibbles-i-ge10}

letter : (n : ℕ) → 10 ≤ n → is_letter n ≡ true
letter n h = ap not (le-ltb n 10 h)

no_letter : (n : ℕ) → n < 10 → is_letter n ≡ false
no_letter n h = ap not (lt-ltb n 10 h)

room : (ns : List ℕ) (i count : ℕ) → i < 16 → length ns ≡ 16 → 10 ≤ get_or ns i 0 → count ≡ length (selected_to ns i) → count < 16
room ns i count lt long h e = omega (arith, selected_room ns i (omega arith) (letter (get_or ns i 0) h))

pub bounds-out-count : goal.bounds-out-count
bounds-out-count c = room c.args.nibbles.now c.loop-i.i c.loop-i.count c.loop-i-test.true c.told-nibbles c.if-nibbles-i-ge10.true c.loop-i.invariant.count_is

pub loop-i-preserved : goal.loop-i-preserved
loop-i-preserved c =
    let ns = c.args.nibbles.now in
    let i = c.loop-i.i in
    let within : i < length ns = omega arith in
    elim c.if-nibbles-i-ge10.branch [
      | then-nibbles-i-ge10 w ↦
          holds_at (holds_more c.loop-i.invariant (get_or ns i 0 - 10) (room ns i c.loop-i.count c.loop-i-test.true c.told-nibbles w.if-nibbles-i-ge10.true c.loop-i.invariant.count_is)) _ _ _
          (selected_yes ns i within (letter (get_or ns i 0) w.if-nibbles-i-ge10.true)) w.out-is w.count-is
      | else-nibbles-i-ge10 w ↦
          holds_at c.loop-i.invariant _ _ _ (selected_no ns i within (no_letter (get_or ns i 0) w.if-nibbles-i-ge10.false)) w.out-is w.count-is
    ]

pub returns : goal.returns
returns c = selected_all c.args.nibbles.now c.loop-i.out c.loop-i.count c.loop-i.i c.told-nibbles c.loop-i-test.false c.loop-i.invariant
