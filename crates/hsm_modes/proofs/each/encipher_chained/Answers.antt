use Rattle.std.proofs.Common.{◌<◌, length, arith}
use Rattle.hsm_modes.specs.declared.Dir.TheVariants.{Encrypt}
use Rattle.hsm_modes.proofs.InPlace.{cbc_more, cbc_chain}
use Rattle.hsm_modes.proofs.each.encipher_chained.Goals as goal

pub loop-i-preserved : goal.loop-i-preserved
loop-i-preserved c =
    let there : c.loop-i.i < length c.args.blocks.now = omega arith in (
      cbc_more c.args.key.now Encrypt c.args.chain c.loop-i.before c.args.blocks.now c.loop-i.blocks c.loop-i.i c.encipher-before.result
          there c.loop-i.invariant.0 c.loop-i.invariant.1 c.encipher-before.ensures,
      cbc_chain c.args.key.now Encrypt c.args.chain c.loop-i.before c.args.blocks.now c.loop-i.blocks c.loop-i.i c.encipher-before.result
          there c.loop-i.invariant.0 c.loop-i.invariant.1 c.encipher-before.ensures,
    )
