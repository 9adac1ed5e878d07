use Rattle.std.proofs.Common.{◌≡◌, ◌-◌, ◌∙◌, sym, ap, length, take, drop, arith, Some}
use Rattle.std.proofs.lemmas.List.{take_rest}
use Rattle.std.proofs.lemmas.Bool.{eqb-false}
use Rattle.hsm_io.specs.MemoryForms.{FileState}
use Rattle.hsm_io.proofs.Passing.{passes_at, passes_told, front_is, reads_after}
use Rattle.hsm_io.proofs.mem_file.MemFileSource.read.Goals as goal

pub returns-clause-bytes : goal.returns-clause-bytes
returns-clause-bytes c =
    let bytes = c.self.inside.bytes.items in
    let shown = c.deref-2.result.now in
    let at = c.self.inside.at in
    let left : take (length shown - at) (drop at shown) ≡ drop at bytes = take_rest shown at ∙ ap (drop at) c.deref-2.ensures.value in
    let size = ap length left in
    let some = eqb-false _ _ (sym c.is_empty.ensures ∙ c.if-is_empty.false) in
    let part = front_is bytes shown c.copy_front.new.room at c.min-count.result c.deref-2.ensures.value (omega (arith, c.min-count.ensures, size)) c.copy_front.ensures.front in
    let told = ap (λ (f : FileState). Some f.stream) c.self.view_is in (
      omega (arith, some, c.min-count.ensures, c.requires),
      omega (arith, c.min-count.ensures, c.copy_front.ensures.len),
      λ s e. passes_told _ s _ _ (passes_at bytes _ at c.min-count.result part) (told ∙ e),
    )

pub returns-clause-after : goal.returns-clause-after
returns-clause-after c = reads_after c.args.self.now c.self.inside.bytes.items _ _ _ _ _ _ c.self.view_is c.saturating_add-self-inside.ensures
