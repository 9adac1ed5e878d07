use Rattle.std.proofs.Common.{◌≡◌, ◌*◌, ◌/◌, length, arith}
use Rattle.hsm_modes.proofs.InPlace.{two_more, last_block}
use Rattle.hsm_modes.proofs.each.decipher_chained.Goals as goal

pub loop-i-preserved : goal.loop-i-preserved
loop-i-preserved c =
    two_more c.args.key.now c.args.chain c.loop-i.before c.args.blocks.now c.loop-i.blocks c.loop-i.i c.decipher_two-x.result.0 c.decipher_two-x.result.1
    (omega arith) c.loop-i.invariant.0 c.loop-i.invariant.1 c.decipher_two-x.ensures.first c.decipher_two-x.ensures.second

pub returns-then-pairs-blocks-clause-blocks : goal.returns-then-pairs-blocks-clause-blocks
returns-then-pairs-blocks-clause-blocks c =
    let pairs = length c.args.blocks.now / 2 in
    let done : 2 * c.loop-i.i ≡ 2 * pairs = omega arith in
    (last_block c.args.key.now c.args.chain c.loop-i.before c.args.blocks.now c.loop-i.blocks c.loop-i.i (2 * pairs) c.decipher.result
    done (omega arith) c.loop-i.invariant.0 c.loop-i.invariant.1 c.decipher.ensures).0

pub returns-then-pairs-blocks-clause-chain : goal.returns-then-pairs-blocks-clause-chain
returns-then-pairs-blocks-clause-chain c =
    let pairs = length c.args.blocks.now / 2 in
    let done : 2 * c.loop-i.i ≡ 2 * pairs = omega arith in
    (last_block c.args.key.now c.args.chain c.loop-i.before c.args.blocks.now c.loop-i.blocks c.loop-i.i (2 * pairs) c.decipher.result
    done (omega arith) c.loop-i.invariant.0 c.loop-i.invariant.1 c.decipher.ensures).1
