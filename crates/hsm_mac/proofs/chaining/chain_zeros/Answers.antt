use Rattle.std.proofs.Common.{sym, ◌∙◌, ◌-◌, ◌%◌, length}
use Rattle.std.proofs.lemmas.List.{take_rest}
use Rattle.hsm_mac.proofs.MacLaws.{zeros_last}
use Rattle.hsm_mac.proofs.chaining.chain_zeros.Goals as goal

pub returns : goal.returns
returns c =
    let bytes = c.args.bytes.now in
    zeros_last c.args.alg c.args.key.now c.args.chain bytes _ c.chain_blocks-whole.result c.last_block.result c.encipher_block.result
    (take_rest bytes (length bytes - length bytes % 8))
    (sym c.is_empty.ensures ∙ c.if-is_empty.false)
    c.chain_blocks-whole.ensures c.last_block.ensures c.encipher_block.ensures
