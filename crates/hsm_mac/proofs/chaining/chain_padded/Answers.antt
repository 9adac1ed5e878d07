use Rattle.std.proofs.Common.{◌≡◌, ◌∙◌, ℕ, ◌*◌, ◌%◌, ◌^◌, length, ap, arith, bit_xor}
use Rattle.hsm_tdes.specs.Tdes.{enciphered}
use Rattle.hsm_mac.specs.Macs.{block_key}
use Rattle.hsm_mac.proofs.MacLaws.{length_first}
use Rattle.hsm_mac.proofs.chaining.chain_padded.Goals as goal

pub returns-in-Length : goal.returns-in-Length
returns-in-Length c =
    let n = 8 * length c.args.bytes.now % 2 ^ 64 in
    let turned : length c.args.bytes.now * 8 % 2 ^ 64 ≡ 8 * length c.args.bytes.now % 2 ^ 64 = omega arith in
    let h = length_first c.args.alg c.args.key.now c.args.chain n c.encipher_block.result c.chain_zeros-in-Length.result _ (omega arith)
    (c.encipher_block.ensures ∙ ap (λ (k : ℕ). enciphered (block_key c.args.alg c.args.key.now) (bit_xor c.args.chain k)) turned)
    c.chain_zeros-in-Length.ensures in
    rw c.in-Length.is h
