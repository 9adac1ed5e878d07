use Rattle.std.proofs.Common.{ℕ, List, ◌++◌, take}
use Rattle.hsm_tally.specs.Tallies.{Counts}
use Rattle.hsm_tally.proofs.replies.Lines.add.Given as goal

abbrev pub invariant-loop-byte : goal.invariant-loop-byte
invariant-loop-byte l = (text : List ℕ) → Counts (record { ok = l.initial.self.ok; other = l.initial.self.other; begun = l.initial.self.begun }) text → Counts (record { ok = l.self.ok; other = l.self.other; begun = l.self.begun }) (text ++ take l.byte-index l.piece)
