use Rattle.std.proofs.Common.{◌≡◌, ◌-◌, ◌++◌, List, Some}
use Rattle.hsm_io.specs.Gates.{GateCall, calls_after}
use Rattle.hsm_session.proofs.batch.call_after.Given as goal

abbrev pub invariant-messages : goal.invariant-messages
invariant-messages g l = (c : List GateCall) → g.G.Gate.calls l.fn.gate ≡ Some c → g.G.Gate.calls l.gate ≡ Some (c ++ calls_after l.lane l.first (l.message - l.first))
