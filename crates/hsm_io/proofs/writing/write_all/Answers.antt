use Rattle.std.proofs.Common.{arith, ◌∙◌, refl}
use Rattle.hsm_io.proofs.TextLemmas.{appends_next, appends_front}
use Rattle.hsm_io.proofs.writing.write_all.Goals as goal

pub writes-preserved : goal.writes-preserved
writes-preserved g c = record {
  within = omega (arith, c.in-Took.ensures.bytes);
  written = appends_next (g.S.Sink.stands_for c.args.out.now) (g.S.Sink.stands_for c.writes.out) (g.S.Sink.stands_for c.write.new.self) c.args.text.now c.writes.at c.in-Took.count
      c.writes.invariant.written c.in-Took.ensures.bytes.2;
  count = c.in-Took.ensures.cause.kept refl ∙ c.writes.invariant.count;
}

pub returns-in-Failed-clause-front : goal.returns-in-Failed-clause-front
returns-in-Failed-clause-front g c = appends_front (g.S.Sink.stands_for c.args.out.now) (g.S.Sink.stands_for c.writes.out) (g.S.Sink.stands_for c.write.new.self) c.args.text.now c.writes.at
    c.writes.invariant.written c.in-Failed.ensures.bytes
