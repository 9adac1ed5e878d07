use Rattle.std.proofs.Common.{◌≡◌, ◌*◌, ◌++◌, map, take, drop}
use Rattle.hsm_tdes.specs.Tdes.{deciphered}
use Rattle.hsm_tdes.proofs.prepared.Prepared.decipher_each.Given as goal

abbrev pub invariant-loop-i : goal.invariant-loop-i
invariant-loop-i l = l.blocks ≡ map (deciphered l.self) (take (2 * l.i) l.fn.blocks) ++ drop (2 * l.i) l.fn.blocks
