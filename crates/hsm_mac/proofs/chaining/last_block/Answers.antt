use Rattle.std.proofs.Common.{◌∙◌, ℕ, List, ◌++◌, length, ap, ap₂}
use Rattle.std.proofs.lemmas.List.{drop-replicate}
use Rattle.hsm_mac.specs.Macs.{block_of_bytes}
use Rattle.hsm_mac.proofs.chaining.last_block.Goals as goal

pub returns : goal.returns
returns c =
    c.block_of_bytes.ensures
    ∙ ap block_of_bytes (ap₂ (λ (xs ys : List ℕ). xs ++ ys) c.copy_from_slice.ensures.after (drop-replicate (length c.args.bytes.now) 8 0))
