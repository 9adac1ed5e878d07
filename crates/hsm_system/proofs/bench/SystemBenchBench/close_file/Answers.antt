use Rattle.std.proofs.Common.{arith, refl, take, ap, sym, List, ℕ, length, ◌≡◌, ◌≤◌, ◌<◌, ◌∙◌, rules, inl}
use Rattle.std.proofs.lemmas.List.{take_all}
use Rattle.std.proofs.lemmas.Bool.Decides.{nat_tests}
use Rattle.hsm_system.proofs.bench.SystemBenchBench.close_file.Goals as goal

pub returns-then-has_failed-clause-files : goal.returns-then-has_failed-clause-files
returns-then-has_failed-clause-files c =
    let fits : length c.args.self.now.last_name.items ≤ 4096 = omega (arith, c.deref.ensures.1, ap (λ (l : List ℕ). length l) c.deref.ensures.0) in
    let kept : c.keep_name.new.kept.items ≡ c.args.self.now.last_name.items =
    c.keep_name.ensures ∙ ap (λ (l : List ℕ). take 4096 l) c.deref.ensures.0 ∙ take_all 4096 _ fits in
    let failed : 0 < c.args.file.faults = grind (arith, nat_tests, sym c.has_failed.ensures ∙ c.if-has_failed.true) in
    record {
      back = λ n e s t. search rules;
      others = λ n. inl refl;
      none_out = refl;
      last = refl;
      clean = λ e. absurd (omega (arith, failed));
      failed = λ e. (omega arith, omega arith, kept);
    }
