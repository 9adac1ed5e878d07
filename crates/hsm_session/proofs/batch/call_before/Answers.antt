use Rattle.std.proofs.Common.{◌≡◌, ℕ, suc, ◌+◌, ◌-◌, ◌++◌, List, Some, ap, ◌∙◌, append_assoc, arith}
use Rattle.hsm_io.specs.Gates.{GateCall, calls_before}
use Rattle.hsm_session.proofs.Gating.{before_push}
use Rattle.hsm_session.proofs.batch.call_before.Goals as goal

pub messages-preserved : goal.messages-preserved
messages-preserved g c = λ calls is.
    let lane = c.args.lane in
    let first = c.args.first in
    let message = c.messages.message in
    let made = message - first in
    let more : suc made ≡ (message + 1) - first = omega arith in
    c.before_book.ensures.told _ (c.messages.invariant calls is)
    ∙ ap (λ (all : List GateCall). Some all)
    (append_assoc calls (calls_before lane first made) _
    ∙ ap (λ (rest : List GateCall). calls ++ rest) (before_push lane first made message (omega arith) ∙ ap (λ (n : ℕ). calls_before lane first n) more))
