use Rattle.std.proofs.Common.{ap}
use Rattle.hsm_auth.specs.declared.entry.Granted.TheVariants.{Use, Refused}
use Rattle.hsm_auth.specs.History.{entry}
use Rattle.hsm_auth.specs.Steps.{drawn_answer}
use Rattle.hsm_auth.proofs.Legal.{legal-push}
use Rattle.hsm_auth.proofs.Steps.{noted_as, steps, used_steps}
use Rattle.hsm_auth.proofs.state.State.step.Goals as goal

pub returns-in-Some-clause-answer : goal.returns-in-Some-clause-answer
returns-in-Some-clause-answer c h stands = (used_steps c.args.self.now c.come_to.new.self c.draw-drawn.new.self c.note.new.self h 0 c.args.moment c.draw-drawn.result c.in-Use.is (ap drawn_answer c.in-Some.is) c.is_some.ensures stands c.come_to.ensures c.draw-drawn.ensures c.note.ensures).0

pub returns-in-Some-clause-stands : goal.returns-in-Some-clause-stands
returns-in-Some-clause-stands c h pass stands = (used_steps c.args.self.now c.come_to.new.self c.draw-drawn.new.self c.note.new.self h pass c.args.moment c.draw-drawn.result c.in-Use.is (ap drawn_answer c.in-Some.is) c.is_some.ensures stands c.come_to.ensures c.draw-drawn.ensures c.note.ensures).1

pub returns-in-Some-clause-legal : goal.returns-in-Some-clause-legal
returns-in-Some-clause-legal c h pass stands legal =
    let answer = (used_steps c.args.self.now c.come_to.new.self c.draw-drawn.new.self c.note.new.self h pass c.args.moment c.draw-drawn.result c.in-Use.is (ap drawn_answer c.in-Some.is) c.is_some.ensures stands c.come_to.ensures c.draw-drawn.ensures c.note.ensures).0 in
    legal-push h (entry pass c.args.moment c.args.ask.now (Use c.in-Some.first)) legal record { answers = answer; moment = c.requires.moment; ask = c.requires.ask }

pub returns-in-None-clause-answer : goal.returns-in-None-clause-answer
returns-in-None-clause-answer c h stands = (used_steps c.args.self.now c.come_to.new.self c.draw-drawn.new.self c.note.new.self h 0 c.args.moment c.draw-drawn.result c.in-Use.is (ap drawn_answer c.in-None.is) c.is_some.ensures stands c.come_to.ensures c.draw-drawn.ensures c.note.ensures).0

pub returns-in-None-clause-stands : goal.returns-in-None-clause-stands
returns-in-None-clause-stands c h pass stands = (used_steps c.args.self.now c.come_to.new.self c.draw-drawn.new.self c.note.new.self h pass c.args.moment c.draw-drawn.result c.in-Use.is (ap drawn_answer c.in-None.is) c.is_some.ensures stands c.come_to.ensures c.draw-drawn.ensures c.note.ensures).1

pub returns-in-None-clause-legal : goal.returns-in-None-clause-legal
returns-in-None-clause-legal c h pass stands legal =
    let answer = (used_steps c.args.self.now c.come_to.new.self c.draw-drawn.new.self c.note.new.self h pass c.args.moment c.draw-drawn.result c.in-Use.is (ap drawn_answer c.in-None.is) c.is_some.ensures stands c.come_to.ensures c.draw-drawn.ensures c.note.ensures).0 in
    legal-push h (entry pass c.args.moment c.args.ask.now Refused) legal record { answers = answer; moment = c.requires.moment; ask = c.requires.ask }

pub returns-clause-answer : goal.returns-clause-answer
returns-clause-answer c h stands = (steps c.args.self.now c.come_to.new.self c.answer.new.self c.note-2.new.self h 0 c.args.moment c.args.ask.now c.answer.new.granted stands c.come_to.ensures c.answer.ensures (noted_as c.kind.ensures c.is_good.ensures c.note-2.ensures)).0

pub returns-clause-stands : goal.returns-clause-stands
returns-clause-stands c h pass stands = (steps c.args.self.now c.come_to.new.self c.answer.new.self c.note-2.new.self h pass c.args.moment c.args.ask.now c.answer.new.granted stands c.come_to.ensures c.answer.ensures (noted_as c.kind.ensures c.is_good.ensures c.note-2.ensures)).1

pub returns-clause-legal : goal.returns-clause-legal
returns-clause-legal c h pass stands legal =
    let answer = (steps c.args.self.now c.come_to.new.self c.answer.new.self c.note-2.new.self h pass c.args.moment c.args.ask.now c.answer.new.granted stands c.come_to.ensures c.answer.ensures (noted_as c.kind.ensures c.is_good.ensures c.note-2.ensures)).0 in
    legal-push h (entry pass c.args.moment c.args.ask.now c.answer.new.granted) legal record { answers = answer; moment = c.requires.moment; ask = c.requires.ask }
