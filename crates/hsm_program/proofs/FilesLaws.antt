-- A file that is opened, read and given back.
use Rattle.std.proofs.Common.{◌≡◌, ℕ, List, ◌++◌, Option, Some, sym, ap, subst, ◌∙◌, inl, inr}
use Rattle.hsm_io.specs.Stream.{Stream, Passes}
use Rattle.hsm_io.specs.Files.{FileSide, Opened, Closed}
use Rattle.hsm_program.specs.Files.{FilesStay}

-- The file is as it was, and so are the others.
pub files_stay : (before between after : FileSide) (name : List ℕ) (opened read : Option Stream) (no_faults faults : ℕ)
    → Opened before between name opened no_faults
    → ((s : Stream) → opened ≡ Some s → (t : Stream) × (read ≡ Some t) × (part : List ℕ) × Passes s t part)
    → Closed between after read faults
    → FilesStay before.bytes_of after.bytes_of
files_stay before between after name opened read no_faults faults open_file passed close_file other bytes told =
    let same : other ≡ name → after.bytes_of other ≡ Some bytes = λ e.
    let here : before.bytes_of name ≡ Some bytes = subst (λ (x : List ℕ). before.bytes_of x ≡ Some bytes) e told in
    let given = open_file.bytes bytes here in
    let p = passed _ given.0 in
    let back = close_file.back name given.1 p.0 p.1 in
    let whole : p.0.was_read ++ p.0.left ≡ bytes = ap (λ (x : List ℕ). x ++ p.0.left) p.3.was_read ∙ sym p.3.left in
    subst (λ (x : List ℕ). after.bytes_of x ≡ Some bytes) (sym e) (back ∙ ap (λ (x : List ℕ). Some x) whole) in
    elim (close_file.others other) [
      | inr e ↦ same (open_file.no_other_name other e)
      | inl e ↦ elim (open_file.others other) [ inl f ↦ e ∙ f ∙ told | inr f ↦ same f ]
    ]
