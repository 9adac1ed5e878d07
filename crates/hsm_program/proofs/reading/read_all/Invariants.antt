use Rattle.std.proofs.Common.{◌≡◌, ◌-◌, length, Some}
use Rattle.hsm_io.specs.Stream.{Stream, Passes}
use Rattle.hsm_program.proofs.reading.read_all.Given as goal

abbrev pub invariant-reads : goal.invariant-reads
invariant-reads g l = record {
  count : g.F.Source.faults l.source ≡ g.F.Source.faults l.initial.source;
  told : (s : Stream) → g.F.Source.stream l.initial.source ≡ Some s → (t : Stream) × (g.F.Source.stream l.source ≡ Some t) × Passes s t l.bytes.items;
}

abbrev pub decreases-reads : goal.decreases-reads
decreases-reads g l = 16777217 - length l.bytes.items
