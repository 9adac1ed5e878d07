use Rattle.std.proofs.Common.{◌≤◌, ◌∙◌, ℕ, length, take, drop, bit_xor, ap, ap₂, arith, take_all, length-drop}
use Rattle.hsm_nibbles.specs.Nibbles.{block_of}
use Rattle.hsm_nibbles.proofs.NibbleLaws.{take-below}
use Rattle.hsm_tdes.specs.Tdes.{enciphered}
use Rattle.hsm_verify.specs.Values.{cvv_digits, selected, under_pair}
use Rattle.hsm_verify.proofs.ValueLaws.{cvv_digits-below, drop-below}
use Rattle.std.specs.List.{list_all}
use Rattle.hsm_types.specs.Pins.{is_decimal}
use Rattle.hsm_verify.proofs.ValueBounds.{take_decimal}
use Rattle.hsm_verify.proofs.cards.cvv.Goals as goal

pub block_of-requires : goal.block_of-requires
block_of-requires c =
    rw (c.copy_from_slice.ensures.after, c.cvv_digits-digits.ensures)
    (take-below 16 (cvv_digits c.args.pan.now c.args.expiry.now c.args.service.now) (cvv_digits-below c.args.pan.now c.args.expiry.now c.args.service.now c.requires.pan c.requires.expiry c.requires.service))

pub block_of-requires-2 : goal.block_of-requires-2
block_of-requires-2 c =
    let digits = cvv_digits c.args.pan.now c.args.expiry.now c.args.service.now in
    rw (c.copy_from_slice-2.ensures.after, c.cvv_digits-digits.ensures)
    (take-below 16 (drop 16 digits) (drop-below 16 digits (cvv_digits-below c.args.pan.now c.args.expiry.now c.args.service.now c.requires.pan c.requires.expiry c.requires.service)))

pub returns-clause-value : goal.returns-clause-value
returns-clause-value c =
    let digits = cvv_digits c.args.pan.now c.args.expiry.now c.args.service.now in
    let a = c.args.a.now in
    let b = c.args.b.now in
    let short : length (drop 16 c.cvv_digits-digits.result) ≤ 16 = omega (arith, length-drop 16 c.cvv_digits-digits.result) in
    let second = c.copy_from_slice-2.ensures.after ∙ take_all 16 (drop 16 c.cvv_digits-digits.result) short ∙ ap (drop 16) c.cvv_digits-digits.ensures in
    let first = c.copy_from_slice.ensures.after ∙ ap (take 16) c.cvv_digits-digits.ensures in
    let value = ap₂ (λ (x y : ℕ). bit_xor (enciphered a x) y) (c.block_of.ensures ∙ ap block_of first) (c.block_of-2.ensures ∙ ap block_of second) in
    let left = ap (λ (e : ℕ). bit_xor e c.block_of-2.result) (c.encipher_first.ensures ∙ c.pair_of-pair.ensures.first c.block_of.result) in
    let x = bit_xor c.encipher_first.result c.block_of-2.result in
    c.copy_from_slice-3.ensures.after
    ∙ ap (take 3) (c.select_all-all.ensures.value ∙ ap selected (c.encipher.ensures ∙ c.pair_of-pair.ensures.pair x ∙ ap (under_pair a b) (left ∙ value)))

pub returns-clause-decimal : goal.returns-clause-decimal
returns-clause-decimal c = ap (list_all is_decimal) c.copy_from_slice-3.ensures.after ∙ take_decimal 3 c.select_all-all.result c.select_all-all.ensures.decimal
