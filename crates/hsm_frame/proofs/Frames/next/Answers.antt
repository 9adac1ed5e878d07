use Rattle.std.proofs.Common.{◌≡◌, ℕ, ◌+◌, ◌-◌, ◌^◌, ◌<◌, ◌∙◌, List, take, drop, refl, ap, ap₂, arith}
use Rattle.std.proofs.lemmas.List.{take_rest}
use Rattle.hsm_frame.proofs.AnswerLemmas.{message_answer, short_answer, not_yet_answer}
use Rattle.hsm_frame.proofs.Frames.next.Goals as goal

pub returns-in-NotYet : goal.returns-in-NotYet
returns-in-NotYet c =
    let start = c.self.inside.start in
    let held = take_rest c.deref.result.now start ∙ ap (drop start) c.deref.ensures.value in
    let waits = rw held at c.in-NotYet.ensures in
    let answer = not_yet_answer _ _ _ c.self.view_is waits.0 waits.1 in
    ((refl, λ _. tt, answer), record { answer = (answer.0, answer.1); leaves = tt })

pub returns-in-Short : goal.returns-in-Short
returns-in-Short c =
    let start = c.self.inside.start in
    let held = take_rest c.deref.result.now start ∙ ap (drop start) c.deref.ensures.value in
    let short = rw held at c.in-Short.ensures in
    let answer = short_answer _ _ _ _ c.from.result c.from.ensures c.self.view_is short in
    ((refl, λ _. tt, answer), record { answer = answer.0; leaves = tt })

pub returns-in-Whole : goal.returns-in-Whole
returns-in-Whole c =
    let items = c.self.inside.buffer.items in
    let start = c.self.inside.start in
    let n = c.in-Whole.count in
    let held = take_rest c.deref.result.now start ∙ ap (drop start) c.deref.ensures.value in
    let whole = rw held at c.in-Whole.ensures in
    let small : n < 2 ^ 16 = omega arith in
    let span : start + 2 + c.from-in-Whole.result - (start + 2) ≡ n = omega (arith, c.from-in-Whole.ensures) in
    let read = ap₂ (λ (k : ℕ) (xs : List ℕ). take k (drop (start + 2) xs)) span c.deref-in-Whole.ensures.value in
    let place : start + 2 + c.from-in-Whole.result ≡ start + 2 + n = omega (arith, c.from-in-Whole.ensures) in
    let answer = message_answer c.args.self.now items start c.self.inside.least n _ c.self.view_is whole.0 small whole.1 whole.2 read _ place in
    ((refl, λ _. tt, answer), record { answer = (answer.0, (_, answer.1)); leaves = tt })
