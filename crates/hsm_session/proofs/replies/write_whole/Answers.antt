use Rattle.std.proofs.Common.{◌∙◌, refl, arith, take}
use Rattle.std.proofs.lemmas.List.{take_all}
use Rattle.hsm_session.proofs.Talking.{says_none, says_next, sends_front, sends_whole}
use Rattle.hsm_session.proofs.replies.write_whole.Goals as goal

pub writes-init : goal.writes-init
writes-init g c = record {
  within = omega arith;
  kept = refl;
  told = says_none (g.K.Link.traffic c.args.link.now);
}

pub writes-preserved : goal.writes-preserved
writes-preserved g c = record {
  within = omega (arith, c.in-Took.ensures.bytes);
  kept = c.in-Took.ensures.cause.kept refl ∙ c.writes.invariant.kept;
  told = says_next (g.K.Link.traffic c.args.link.now) (g.K.Link.traffic c.writes.link) (g.K.Link.traffic c.write.new.self) c.args.text.now c.writes.at c.in-Took.count
      c.writes.invariant.told c.in-Took.ensures.bytes.2;
}

pub returns-in-Failed-clause-front : goal.returns-in-Failed-clause-front
returns-in-Failed-clause-front g c =
    sends_front (g.K.Link.traffic c.args.link.now) (g.K.Link.traffic c.writes.link) (g.K.Link.traffic c.write.new.self) c.args.text.now c.writes.at
    c.writes.invariant.told c.in-Failed.ensures.bytes

pub returns-clause-ok : goal.returns-clause-ok
returns-clause-ok g c =
    sends_whole (g.K.Link.traffic c.args.link.now) (g.K.Link.traffic c.writes.link) c.args.text.now (take c.writes.at c.args.text.now)
    c.writes.invariant.told (take_all c.writes.at c.args.text.now (omega arith))
