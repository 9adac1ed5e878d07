use Rattle.std.proofs.Common.{◌≡◌, ℕ, suc, ◌+◌, ◌-◌, ◌++◌, List, Some, ap, ◌∙◌, append_assoc, arith}
use Rattle.hsm_io.specs.Gates.{GateCall, calls_after}
use Rattle.hsm_session.proofs.Gating.{after_push}
use Rattle.hsm_session.proofs.batch.call_after.Goals as goal

pub messages-preserved : goal.messages-preserved
messages-preserved g c = λ calls is.
    let lane = c.args.lane in
    let first = c.args.first in
    let message = c.messages.message in
    let made = message - first in
    let more : suc made ≡ (message + 1) - first = omega arith in
    c.after_book.ensures.told _ (c.messages.invariant calls is)
    ∙ ap (λ (all : List GateCall). Some all)
    (append_assoc calls (calls_after lane first made) _
    ∙ ap (λ (rest : List GateCall). calls ++ rest) (after_push lane first made message (omega arith) ∙ ap (λ (n : ℕ). calls_after lane first n) more))
