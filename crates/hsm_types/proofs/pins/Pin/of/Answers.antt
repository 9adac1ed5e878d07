use Rattle.std.proofs.Common.{sym, ◌∙◌}
use Rattle.hsm_types.proofs.PinLemmas.{is_pin-true, keeps_pin}
use Rattle.hsm_types.proofs.pins.Pin.of.Goals as goal

pub invariant_of-result : goal.invariant_of-result
invariant_of-result c =
    let digits = c.args.digits.now in
    let most = c.if-count-gt12.false in
    let decimal = sym c.all_decimal.ensures ∙ c.if-not-all_decimal.false in
    rw c.copy_from_slice.ensures.after (keeps_pin digits most (is_pin-true digits c.if-count-lt4.false most decimal))
