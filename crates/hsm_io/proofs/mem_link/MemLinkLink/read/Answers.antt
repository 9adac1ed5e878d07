use Rattle.std.proofs.Common.{Some, drop, subst, ◌++◌}
use Rattle.hsm_io.specs.Connections.{ReadLink}
use Rattle.hsm_io.specs.MemoryLinks.{LinkState, traffic_of}
use Rattle.hsm_io.proofs.LinkLemmas.{reads_over, beside}
use Rattle.hsm_io.proofs.mem_link.MemLinkLink.read.Goals as goal

pub returns-else-eq-clause-bytes : goal.returns-else-eq-clause-bytes
returns-else-eq-clause-bytes c =
    let new = beside c.read-got.new.self.stream c.self.inside.output.bytes in
    let room = c.read-got.new.room ++ drop c.min-most.result c.args.room.now in
    subst (λ (l : LinkState). ReadLink (Some (traffic_of l)) (Some new) room c.read-got.result) c.self.view_is
    (reads_over _ _ _ _ _ c.read-got.result c.read-got.ensures.bytes)
