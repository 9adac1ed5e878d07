use Rattle.std.proofs.Common.{◌∙◌, ◌+◌, ◌-◌, ◌%◌, ◌^◌, refl, arith}
use Rattle.hsm_make.specs.Messages.{made_text}
use Rattle.hsm_make.proofs.Steps.{all_lines, next_lines, no_lines}
use Rattle.hsm_make.proofs.script.made_script.Goals as goal

pub messages-init : goal.messages-init
messages-init c =
    no_lines c.new-script.result.items c.args.count c.args.seed (c.args.seed % 2 ^ 31) (c.args.count - 0) c.new-script.ensures.items refl (omega arith)

pub messages-preserved : goal.messages-preserved
messages-preserved c =
    let count = c.args.count in
    let made = c.messages.counter in
    next_lines (made_text count c.args.seed) c.messages.script.items c.extend_from_slice.new.self.items c.bytes.result.now c.messages.x
    c.next_x-x.result (count - made) (count - (made + 1)) c.messages.invariant (omega (arith, c.messages-test.true)) (omega arith) c.next_x-x.ensures
    (c.bytes.ensures.bytes ∙ c.make_lines.ensures.lines) c.in_ok-extend_from_slice.ensures.items

pub returns : goal.returns
returns c =
    let left = c.args.count - c.messages.counter in
    all_lines (made_text c.args.count c.args.seed) c.messages.script.items c.messages.x left c.messages.invariant (omega (arith, c.messages-test.false))
