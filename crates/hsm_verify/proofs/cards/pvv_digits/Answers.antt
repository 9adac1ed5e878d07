use Rattle.std.proofs.Common.{◌≤◌, ◌∙◌, length, drop, arith, take_all, length-drop}
use Rattle.hsm_verify.proofs.ValueLaws.{pvv_written}
use Rattle.hsm_verify.proofs.cards.pvv_digits.Goals as goal

pub returns : goal.returns
returns c =
    let account = c.args.account.now in
    let short : length (drop 1 account) ≤ 11 = omega (arith, length-drop 1 account) in
    pvv_written account c.args.pin.now c.copy_from_slice.new.self c.copy_from_slice-2.new.self c.args.index c.told-account
    (c.copy_from_slice.ensures.after ∙ take_all 11 (drop 1 account) short) c.copy_from_slice-2.ensures.after
