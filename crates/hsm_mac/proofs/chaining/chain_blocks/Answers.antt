use Rattle.std.proofs.Common.{◌≤◌, ◌∙◌, ℕ, List, length, map, ap, sym, arith, take_all}
use Rattle.hsm_mac.specs.Macs.{block_of_bytes, blocks_of, chained}
use Rattle.hsm_mac.proofs.MacLaws.{chained-nil, chained_more}
use Rattle.hsm_mac.proofs.chaining.chain_blocks.Goals as goal

pub loop-block-init : goal.loop-block-init
loop-block-init c = sym (chained-nil c.args.alg c.args.key.now c.args.chain)

pub loop-block-preserved : goal.loop-block-preserved
loop-block-preserved c =
    c.encipher_block-value.ensures
    ∙ chained_more c.args.alg c.args.key.now c.args.chain c.loop-block.value c.as_chunks.result.0.now c.loop-block.block-index c.block_of_bytes.result
    c.loop-block-test.true c.loop-block.invariant c.block_of_bytes.ensures

pub returns : goal.returns
unfolding blocks_of
returns c =
    let bs = c.as_chunks.result.0.now in
    let past : length bs ≤ c.loop-block.block-index = omega arith in
    c.loop-block.invariant
    ∙ ap (λ (xs : List (List ℕ)). chained c.args.alg c.args.key.now c.args.chain (map block_of_bytes xs)) (take_all c.loop-block.block-index bs past ∙ c.as_chunks.ensures.front)
