use Rattle.std.proofs.Common.{◌≡◌, ◌*◌, ◌/◌, ◌∙◌, length, ap, arith}
use Rattle.hsm_tdes.specs.Tdes.{enciphered}
use Rattle.hsm_tdes.proofs.EachBlock.{two_more, last_one, replaced}
use Rattle.hsm_tdes.proofs.prepared.Prepared.encipher_each.Goals as goal

pub loop-i-preserved : goal.loop-i-preserved
loop-i-preserved c =
    two_more (enciphered c.args.self.now) c.args.blocks.now c.loop-i.blocks c.loop-i.i c.encipher_two-x.result.0 c.encipher_two-x.result.1
    (omega arith) c.loop-i.invariant c.encipher_two-x.ensures.first c.encipher_two-x.ensures.second

pub returns-then-pairs-blocks : goal.returns-then-pairs-blocks
returns-then-pairs-blocks c =
    let pairs = length c.args.blocks.now / 2 in
    let done : c.loop-i.i ≡ pairs = omega arith in
    last_one (enciphered c.args.self.now) c.args.blocks.now c.loop-i.blocks (2 * pairs) c.encipher.result
    (omega arith) (c.loop-i.invariant ∙ ap (λ n. replaced (enciphered c.args.self.now) (2 * n) c.args.blocks.now) done) c.encipher.ensures
