use Rattle.std.proofs.Common.{◌-◌, ◌%◌, length}
use Rattle.std.proofs.lemmas.List.{take_rest}
use Rattle.hsm_mac.proofs.MacLaws.{bit_last}
use Rattle.hsm_mac.proofs.chaining.chain_bit.Goals as goal

pub returns : goal.returns
returns c =
    let bytes = c.args.bytes.now in
    bit_last c.args.alg c.args.key.now c.args.chain bytes _ c.copy_from_slice.new.self c.chain_blocks-whole.result c.block_of_bytes.result c.encipher_block.result
    (take_rest bytes (length bytes - length bytes % 8))
    c.copy_from_slice.ensures.after
    c.chain_blocks-whole.ensures c.block_of_bytes.ensures c.encipher_block.ensures
