use Rattle.std.proofs.Common.{◌≡◌, length, ap, arith}
use Rattle.std.proofs.lemmas.List.Folds.{length-flat_map-take}
use Rattle.hsm_answers.specs.Values.{validation_digit}
use Rattle.hsm_commands.proofs.ValidationSteps.{sixteen}
use Rattle.hsm_commands.proofs.value_pin.validation_digits.Goals as goal

pub add_digits-requires : goal.add_digits-requires
add_digits-requires c =
    let text = c.args.text.now in
    let account = c.args.account.now in
    let twelve : length account ≡ 12 = omega arith in
    let whole = sixteen account text twelve c.requires in
    let most = length-flat_map-take (validation_digit account) text c.loop-character.character-index 0 (omega (arith, c.loop-character-test.true)) in
    let so_far = ap length c.loop-character.invariant in
    omega (arith, whole, most, so_far)
