use Rattle.std.proofs.Common.{◌≡◌, map, take}
use Rattle.hsm_mac.specs.Macs.{block_of_bytes, chained}
use Rattle.hsm_mac.proofs.chaining.chain_blocks.Given as goal

abbrev pub invariant-loop-block : goal.invariant-loop-block
invariant-loop-block l = l.value ≡ chained l.alg l.key l.chain (map block_of_bytes (take l.block-index l.blocks))
