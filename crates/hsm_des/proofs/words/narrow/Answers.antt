use Rattle.std.proofs.Common.{ap, ◌∙◌}
use Rattle.hsm_des.specs.Bits.{bits}
use Rattle.hsm_des.proofs.Rounds.{narrow_word}
use Rattle.hsm_des.proofs.words.narrow.Goals as goal

pub returns : goal.returns
returns c = ap (bits 32) c.rotate_right.ensures ∙ narrow_word c.args.word
