use Rattle.std.proofs.lemmas.Bool.{ne_eqb}
use Rattle.hsm_tally.proofs.LineLemmas.{added}
use Rattle.hsm_tally.proofs.replies.Lines.add_byte.Goals as goal

pub returns-else-byte-eq10 : goal.returns-else-byte-eq10
returns-else-byte-eq10 c = added c.args.self.now c.self.inside.ok c.self.inside.other c.args.byte c.self.inside.begun.items _ c.self.view_is (ne_eqb c.args.byte 10 c.if-byte-eq10.false) c.push_within.ensures
