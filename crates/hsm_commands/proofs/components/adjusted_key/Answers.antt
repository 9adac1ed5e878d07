use Rattle.std.proofs.Common.{◌≡◌, ℕ, List, [], ◌∷◌, ap, ap₂, ◌∙◌, arith}
use Rattle.hsm_types.specs.Schemes.{scheme_parts}
use Rattle.hsm_parity.specs.Parity.{adjusted}
use Rattle.hsm_answers.specs.Values.{parts_of_bytes}
use Rattle.hsm_commands.proofs.JoinSteps.{two_parts, three_parts}
use Rattle.hsm_commands.proofs.components.adjusted_key.Goals as goal

pub returns-in-2-clause-key : goal.returns-in-2-clause-key
returns-in-2-clause-key c =
    let bytes = c.args.bytes.now in
    let count : 2 ≡ scheme_parts c.args.scheme = omega (arith, c.scheme_parts.ensures.parts) in
    c.two.ensures
    ∙ (ap₂ (λ (a b : List ℕ). a ∷ b ∷ []) c.part_at-in-2.ensures c.part_at-in-2-2.ensures
    ∙ (two_parts bytes ∙ ap (λ (n : ℕ). parts_of_bytes n (adjusted bytes)) count))

pub returns-in_default-clause-key : goal.returns-in_default-clause-key
returns-in_default-clause-key c =
    let bytes = c.args.bytes.now in
    let count : 3 ≡ scheme_parts c.args.scheme = omega (arith, c.scheme_parts.ensures.parts) in
    c.three.ensures
    ∙ (ap₂ (λ (a : List ℕ) (rest : List (List ℕ)). a ∷ rest) c.part_at-in_default.ensures
    (ap₂ (λ (a b : List ℕ). a ∷ b ∷ []) c.part_at-in_default-2.ensures c.part_at-in_default-3.ensures)
    ∙ (three_parts bytes ∙ ap (λ (n : ℕ). parts_of_bytes n (adjusted bytes)) count))
