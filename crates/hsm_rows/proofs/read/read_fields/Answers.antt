use Rattle.std.proofs.Common.{◌≡◌, ℕ, List, [], map, ap, ◌∙◌, arith, Ok}
use Rattle.std.specs.Borrow.{Bor}
use Rattle.std.proofs.lemmas.Grind.{common_steps}
use Rattle.hsm_rows.specs.Forms.{set_number, shown}
use Rattle.hsm_rows.specs.Reading.{is_console, naming, read_on}
use Rattle.hsm_rows.specs.Table.{shape_of}
use Rattle.hsm_rows.proofs.ReadSteps.{step_none, step_some, step_end_good, step_end_bad}
use Rattle.hsm_rows.proofs.Refusals.{row_reads, row_refuses, whole_read}
use Rattle.hsm_rows.proofs.PlaceLemmas.{row_in_place}
use Rattle.hsm_rows.proofs.read.read_fields.Goals as goal

pub loop-field-preserved : goal.loop-field-preserved
loop-field-preserved c = grind (arith, common_steps, step_some)

pub returns-in-None-clause-reading : goal.returns-in-None-clause-reading
returns-in-None-clause-reading c = grind (arith, common_steps, step_none)

pub returns-in-None-clause-refuses : goal.returns-in-None-clause-refuses
returns-in-None-clause-refuses c = row_refuses (shape_of c.args.row.now) c.args.text.now _ (returns-in-None-clause-reading c)

pub returns-then-not-is_ending-clause-reading : goal.returns-then-not-is_ending-clause-reading
returns-then-not-is_ending-clause-reading c = grind (arith, common_steps, step_end_bad)

pub returns-then-not-is_ending-clause-refuses : goal.returns-then-not-is_ending-clause-refuses
returns-then-not-is_ending-clause-refuses c = row_refuses (shape_of c.args.row.now) c.args.text.now _ (returns-then-not-is_ending-clause-reading c)

pub returns-clause-reading : goal.returns-clause-reading
returns-clause-reading c =
    let row = shape_of c.args.row.now in
    let texts = map shown c.loop-field.texts.items in
    let rest = c.loop-field.rest.now in
    let following = c.split_ending.result.0.now in
    let read : read_on (is_console row) row.fields [] c.args.text.now ≡ Ok (record { texts = texts; ending = rest }) = grind (arith, common_steps, step_end_good) in
    let named = c.named_set-set.ensures ∙ ap (λ (x : List (Bor (List ℕ))). set_number (naming row.fields (map shown x) following)) c.as_slice-2.ensures.value in
    whole_read row c.args.text.now texts rest following c.split_ending.result.1.now c.named_set-set.result read c.split_ending.ensures.set c.split_ending.ensures.behind named

pub returns-clause-reads : goal.returns-clause-reads
returns-clause-reads c = row_reads (shape_of c.args.row.now) c.args.text.now _ (returns-clause-reading c)

pub returns-clause-in_place : goal.returns-clause-in_place
returns-clause-in_place c = row_in_place (shape_of c.args.row.now) c.args.text.now _ (returns-clause-reads c)
