use Rattle.std.proofs.Common.{◌≡◌, ◌∙◌, ℕ, List, length, ap, sym, subst, arith}
use Rattle.std.specs.Int.Digits.{AllBelowBase}
use Rattle.hsm_commands.proofs.ValidationSteps.{sixteen, digits_below}
use Rattle.hsm_commands.proofs.value_pin.validation_nibbles.Goals as goal

pub copy_from_slice-requires : goal.copy_from_slice-requires
copy_from_slice-requires c =
    let twelve : length c.args.account.now ≡ 12 = omega arith in
    sym (ap length (c.as_slice.ensures.value ∙ c.validation_digits-digits.ensures) ∙ sixteen c.args.account.now c.args.text.now twelve c.requires.text)

pub returns-clause-bounds : goal.returns-clause-bounds
returns-clause-bounds c =
    let P : List ℕ → Type 0 = λ xs. AllBelowBase 16 xs in
    subst P (sym (c.copy_from_slice.ensures.after ∙ (c.as_slice.ensures.value ∙ c.validation_digits-digits.ensures)))
    (digits_below c.args.account.now c.args.text.now c.requires.account c.requires.text.characters)
