use Rattle.std.proofs.Common.{◌≡◌, ◌≤◌, Option, Some, None, MatchOption, List, ℕ, ap, arith, refl, subst}
use Rattle.hsm_io.specs.Sides.{Seeded, NotSeeded}
use Rattle.hsm_io.specs.MemoryBench.{SeedState, BenchState, seed_side, after_seed}
use Rattle.hsm_io.proofs.mem_bench.MemBenchBench.seed.Goals as goal

by : (bench after : SeedState) (o : Option (List ℕ)) → bench.faults ≤ after.faults → after ≡ after_seed bench o
    → MatchOption o (NotSeeded (seed_side bench) (seed_side after)) (λ seed. Seeded (seed_side bench) (seed_side after) seed)
by bench after None later is =
    let up = rw is at later in rw is (record { rose = omega arith; later = up; given = refl; last = refl })
by bench after (Some seed) later is = rw is (record { count = refl; given = refl; last = refl })

pub returns-clause-seeds : goal.returns-clause-seeds
returns-clause-seeds c =
    let same = ap (λ (b : BenchState). b.seeds) c.self.view_is in
    let Done : SeedState → Type 0 = λ b. MatchOption c.give.result (NotSeeded (seed_side b) (seed_side c.give.new.self)) (λ seed. Seeded (seed_side b) (seed_side c.give.new.self) seed) in
    subst Done same (by c.self.inside.seeds c.give.new.self c.give.result c.give.ensures.later c.give.ensures.after)
