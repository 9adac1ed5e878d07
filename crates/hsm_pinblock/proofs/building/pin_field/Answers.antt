use Rattle.std.proofs.Common.{◌≡◌, ◌∙◌, ℕ, List, ◌∷◌, ◌++◌, ◌-◌, ◌≤◌, ap, ap₂, length, arith}
use Rattle.std.proofs.lemmas.List.{take-replicate, drop-replicate}
use Rattle.hsm_pinblock.specs.Blocks.{pin_field}
use Rattle.hsm_pinblock.specs.declared.Format.{Format}
use Rattle.hsm_pinblock.specs.declared.Format.TheVariants.{F01, F03}
use Rattle.hsm_pinblock.proofs.building.pin_field.Goals as goal

at : (f g : Format) (pin fill out : List ℕ) → f ≡ g → out ≡ pin_field g pin fill → out ≡ pin_field f pin fill
at f g pin fill out e h = rw e h

pub returns-in-F01 : goal.returns-in-F01
returns-in-F01 c =
    let digits = c.args.digits.now in
    let less : 14 - length digits ≤ 14 = omega arith in
    at c.args.format F01 digits c.args.fill.now c.field_of.result c.in-F01.is
    (c.field_of.ensures ∙ ap (λ (xs : List ℕ). 0 ∷ length digits ∷ digits ++ xs) (take-replicate (14 - length digits) 14 15 less))

pub returns-in-F03 : goal.returns-in-F03
returns-in-F03 c =
    let digits = c.args.digits.now in
    at c.args.format F03 digits c.args.fill.now _ c.in-F03.is
    (ap₂ (λ (xs ys : List ℕ). xs ++ ys) c.copy_from_slice.ensures.after (drop-replicate (length digits) 16 15))
