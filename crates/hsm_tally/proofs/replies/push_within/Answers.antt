use Rattle.std.proofs.Common.{◌∙◌, ◌≤◌, ◌∷◌, [], length, sym, arith}
use Rattle.std.proofs.lemmas.List.{take_all, take-append-le}
use Rattle.hsm_tally.proofs.replies.push_within.Goals as goal

pub returns-else-len-lt23 : goal.returns-else-len-lt23
returns-else-len-lt23 c =
    let full : 23 ≤ length c.args.begun.now.items = omega (arith, c.if-len-lt23.false, c.len.ensures) in
    let fits : length c.args.begun.now.items ≤ 23 = omega (arith, c.if-len-lt23.false, c.len.ensures) in
    sym (take-append-le 23 c.args.begun.now.items (c.args.byte ∷ []) full ∙ take_all 23 c.args.begun.now.items fits)
