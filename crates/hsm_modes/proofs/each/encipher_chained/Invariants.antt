use Rattle.std.proofs.Common.{◌≡◌, ◌++◌, take, drop}
use Rattle.hsm_modes.specs.declared.Dir.TheVariants.{Encrypt}
use Rattle.hsm_modes.specs.Modes.{after, all_made, in_cbc}
use Rattle.hsm_modes.proofs.each.encipher_chained.Given as goal

abbrev pub invariant-loop-i : goal.invariant-loop-i
invariant-loop-i l =
    (l.blocks ≡ all_made (in_cbc l.key Encrypt l.chain) (take l.i l.fn.blocks) ++ drop l.i l.fn.blocks)
    × (l.before ≡ (after (in_cbc l.key Encrypt l.chain) (take l.i l.fn.blocks)).chain)
