use Rattle.std.proofs.Common.{◌≡◌, ◌*◌, ◌/◌, ◌∙◌, length, ap, arith}
use Rattle.hsm_tdes.specs.Tdes.{deciphered}
use Rattle.hsm_tdes.proofs.EachBlock.{two_more, last_one, replaced}
use Rattle.hsm_tdes.proofs.prepared.Prepared.decipher_each.Goals as goal

pub loop-i-preserved : goal.loop-i-preserved
loop-i-preserved c =
    two_more (deciphered c.args.self.now) c.args.blocks.now c.loop-i.blocks c.loop-i.i c.decipher_two-x.result.0 c.decipher_two-x.result.1
    (omega arith) c.loop-i.invariant c.decipher_two-x.ensures.first c.decipher_two-x.ensures.second

pub returns-then-pairs-blocks : goal.returns-then-pairs-blocks
returns-then-pairs-blocks c =
    let pairs = length c.args.blocks.now / 2 in
    let done : c.loop-i.i ≡ pairs = omega arith in
    last_one (deciphered c.args.self.now) c.args.blocks.now c.loop-i.blocks (2 * pairs) c.decipher.result
    (omega arith) (c.loop-i.invariant ∙ ap (λ n. replaced (deciphered c.args.self.now) (2 * n) c.args.blocks.now) done) c.decipher.ensures
