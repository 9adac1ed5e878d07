use Rattle.std.proofs.Common.{◌≡◌, ◌+◌, drop}
use Rattle.std.specs.List.{prefix_len}
use Rattle.hsm_rows.specs.Forms.{is_no_space}
use Rattle.hsm_rows.proofs.texts.token_run.Given as goal

abbrev pub invariant-loop-k : goal.invariant-loop-k
invariant-loop-k l = prefix_len is_no_space l.rest ≡ l.k + prefix_len is_no_space (drop l.k l.rest)
