use Rattle.std.proofs.Common.{◌≡◌, map, take}
use Rattle.hsm_session.specs.Plans.{plan_ask}
use Rattle.hsm_session.proofs.batch.put_asks.Given as goal

abbrev pub invariant-plans : goal.invariant-plans
invariant-plans l = take l.at l.asks ≡ map plan_ask (take l.at l.plans)
