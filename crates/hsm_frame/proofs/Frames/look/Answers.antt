use Rattle.std.proofs.Common.{◌≡◌, ℕ, ◌+◌, ◌-◌, ◌^◌, ◌<◌, ◌∙◌, List, take, drop, refl, sym, ap, ap₂, arith, drop-drop}
use Rattle.std.proofs.lemmas.List.{take_rest}
use Rattle.hsm_frame.specs.Calls.{Held}
use Rattle.hsm_frame.proofs.AnswerLemmas.{message_answer, short_answer, not_yet_answer}
use Rattle.hsm_frame.proofs.Frames.look.Goals as goal

-- what is held behind the first bytes of what was held
behind : (old : Held) (items : List ℕ) (start from least : ℕ) → record { least = least; bytes = drop start items } ≡ old
    → record { least = least; bytes = drop (start + from) items } ≡ record old { bytes = drop from old.bytes }
behind old items start from least was =
    ap (λ (bytes : List ℕ). record { least = least; bytes = bytes }) (sym (drop-drop from start items))
    ∙ ap (λ (h : Held). record h { bytes = drop from h.bytes }) was

pub returns-in-NotYet : goal.returns-in-NotYet
returns-in-NotYet c =
    let items = c.self.inside.buffer.items in
    let start = c.self.inside.start in
    let from = c.args.from in
    let held = take_rest c.deref.result.now (start + from) ∙ ap (drop (start + from)) c.deref.ensures.value in
    let waits = rw held at c.in-NotYet.ensures in
    let answer = not_yet_answer _ _ _ (behind c.args.self.now items start from c.self.inside.least c.self.view_is) waits.0 waits.1 in
    (answer.0, answer.1)

pub returns-in-Short : goal.returns-in-Short
returns-in-Short c =
    let items = c.self.inside.buffer.items in
    let start = c.self.inside.start in
    let from = c.args.from in
    let held = take_rest c.deref.result.now (start + from) ∙ ap (drop (start + from)) c.deref.ensures.value in
    let short = rw held at c.in-Short.ensures in
    let answer = short_answer _ _ _ _ c.from.result c.from.ensures (behind c.args.self.now items start from c.self.inside.least c.self.view_is) short in
    answer.0

pub returns-in-Whole : goal.returns-in-Whole
returns-in-Whole c =
    let items = c.self.inside.buffer.items in
    let start = c.self.inside.start in
    let at = start + c.args.from in
    let n = c.in-Whole.count in
    let held = take_rest c.deref.result.now at ∙ ap (drop at) c.deref.ensures.value in
    let whole = rw held at c.in-Whole.ensures in
    let small : n < 2 ^ 16 = omega arith in
    let span : at + 2 + c.from-in-Whole.result - (at + 2) ≡ n = omega (arith, c.from-in-Whole.ensures) in
    let read = ap₂ (λ (k : ℕ) (xs : List ℕ). take k (drop (at + 2) xs)) span c.deref-in-Whole.ensures.value in
    let old : Held = record c.args.self.now { bytes = drop c.args.from c.args.self.now.bytes } in
    let answer = message_answer old items at c.self.inside.least n _ (behind c.args.self.now items start c.args.from c.self.inside.least c.self.view_is) whole.0 small whole.1 whole.2 read (at + 2 + n) refl in
    (answer.0, (_, answer.1))
