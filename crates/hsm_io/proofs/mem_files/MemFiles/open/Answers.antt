use Rattle.std.proofs.Common.{◌∙◌, ap, sym}
use Rattle.hsm_io.specs.Files.{kept_name}
use Rattle.hsm_io.proofs.FileLemmas.{opens, opens_none}
use Rattle.hsm_io.proofs.mem_files.MemFiles.open.Goals as goal

pub invariant_of-self : goal.invariant_of-self
invariant_of-self c =
    let all = opens c.args.self.now _ _ _ _ _ _ _ c.self.view_is c.args.name.now _ c.in-Some.place _ c.index_mut.result.now _ c.lend.result
    (sym c.in-Some.ensures) c.index_mut.ensures.value c.lend.ensures.file c.lend.ensures.left c.saturating_add-self-inside.ensures (c.keep_name.ensures ∙ ap kept_name c.as_bytes.ensures.value) in
    all.1

pub returns-in-Some-clause-answer : goal.returns-in-Some-clause-answer
returns-in-Some-clause-answer c =
    let all = opens c.args.self.now _ _ _ _ _ _ _ c.self.view_is c.args.name.now _ c.in-Some.place _ c.index_mut.result.now _ c.lend.result
    (sym c.in-Some.ensures) c.index_mut.ensures.value c.lend.ensures.file c.lend.ensures.left c.saturating_add-self-inside.ensures (c.keep_name.ensures ∙ ap kept_name c.as_bytes.ensures.value) in
    all.0

pub returns-in-Some-clause-after : goal.returns-in-Some-clause-after
returns-in-Some-clause-after c =
    let all = opens c.args.self.now _ _ _ _ _ _ _ c.self.view_is c.args.name.now _ c.in-Some.place _ c.index_mut.result.now _ c.lend.result
    (sym c.in-Some.ensures) c.index_mut.ensures.value c.lend.ensures.file c.lend.ensures.left c.saturating_add-self-inside.ensures (c.keep_name.ensures ∙ ap kept_name c.as_bytes.ensures.value) in
    all.2

pub returns-in-None-clause-answer : goal.returns-in-None-clause-answer
returns-in-None-clause-answer c = opens_none c.args.self.now c.args.name.now (sym c.in-None.ensures)
