use Rattle.std.proofs.Common.{codes, arith, length-append, append_assoc}
use Rattle.hsm_make.proofs.Lengths.{length-hex_of_bytes}
use Rattle.hsm_make.proofs.messages.put_host_text.Goals as goal

pub returns-then-kind-eq0-clause-text : goal.returns-then-kind-eq0-clause-text
returns-then-kind-eq0-clause-text c =
    rw (c.if-kind-eq0.true, c.put_hex.ensures, c.put.ensures, c.to_be_bytes.ensures) (append_assoc c.args.message.now (codes "B20008") _)

pub returns-then-kind-eq2-clause-text : goal.returns-then-kind-eq2-clause-text
returns-then-kind-eq2-clause-text c = rw c.if-kind-eq2.true c.put-then-kind-eq2.ensures

pub returns-else-kind-eq2-clause-short : goal.returns-else-kind-eq2-clause-short
returns-else-kind-eq2-clause-short c =
    rw (c.put_hex-else-kind-eq2.ensures, c.put-else-kind-eq2.ensures) (grind (arith, length-append, length-hex_of_bytes, c.fits-key))
