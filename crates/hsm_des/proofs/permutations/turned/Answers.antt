use Rattle.hsm_des.proofs.WordLemmas.{turned_word}
use Rattle.hsm_des.proofs.permutations.turned.Goals as goal

pub returns-clause-bits : goal.returns-clause-bits
returns-clause-bits c = turned_word c.args.half c.args.shift c.requires.half c.requires.shift
