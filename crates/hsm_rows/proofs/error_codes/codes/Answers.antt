use Rattle.std.proofs.Common.{arith, sym, ◌∙◌}
use Rattle.std.proofs.lemmas.Grind.{common_steps}
use Rattle.hsm_rows.specs.Table.{shape_of}
use Rattle.hsm_rows.proofs.CodeLemmas.{code_room, console_codes, few_codes, host_codes, all_found, step_named, step_other}
use Rattle.hsm_rows.proofs.error_codes.codes.Goals as goal
use Rattle.hsm_rows.proofs.error_codes.codes.Goals.{then-is_named, else-is_named}
use Rattle.hsm_rows.specs.Codes.{names}

pub returns-then-is_console : goal.returns-then-is_console
returns-then-is_console c = rw (c.new-codes.ensures) (sym (console_codes (shape_of c.args.row.now) (sym c.if-is_console.ensures)))

pub loop-code-init : goal.loop-code-init
loop-code-init c = grind (arith, common_steps)

pub push-requires : goal.push-requires
push-requires c =
    let row = shape_of c.args.row.now in
    let few = rw (host_codes row (sym c.if-is_console.ensures)) at (few_codes row c.requires) in
    (omega arith, code_room (names row) c.loop-code.codes.items c.loop-code.code c.loop-code-test.true (sym c.is_named.ensures ∙ c.if-is_named.true) c.loop-code.invariant few)

pub loop-code-preserved : goal.loop-code-preserved
loop-code-preserved c =
    let p = names (shape_of c.args.row.now) in
    elim c.if-is_named.branch [
      | then-is_named w ↦ rw (w.codes-is, w.push.ensures.items) (step_named p c.loop-code.codes.items c.loop-code.code c.loop-code-test.true (sym c.is_named.ensures ∙ w.if-is_named.true) c.loop-code.invariant)
      | else-is_named w ↦ rw w.codes-is (step_other p c.loop-code.codes.items c.loop-code.code c.loop-code-test.true (sym c.is_named.ensures ∙ w.if-is_named.false) c.loop-code.invariant)
    ]

pub returns : goal.returns
returns c = grind (arith, common_steps, all_found, host_codes (shape_of c.args.row.now) (sym c.if-is_console.ensures))
