use Rattle.std.proofs.Common.{◌≡◌, ◌+◌, ◌++◌, drop, map}
use Rattle.hsm_rows.specs.Table.{term_of}
use Rattle.hsm_rows.specs.Explain.{clear_lines}
use Rattle.hsm_rows.proofs.listing.put_clear.Given as goal

pub record Invariant (l : goal.Live-loop-term) : Type 0 where
  pub written : l.out ++ clear_lines l.place (map term_of (drop l.term-index l.terms)) ≡ l.initial.out ++ clear_lines l.first (map term_of l.terms)
  pub place : l.place ≡ l.first + l.term-index

abbrev pub invariant-loop-term : goal.invariant-loop-term
invariant-loop-term l = Invariant l
