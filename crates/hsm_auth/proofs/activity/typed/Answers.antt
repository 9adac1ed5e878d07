use Rattle.std.proofs.Common.{ℕ, ◌≤◌, List, length, take, drop, ◌∙◌, refl, sym, ap, arith, length-take}
use Rattle.hsm_types.specs.Table.{type_with}
use Rattle.hsm_types.proofs.Codes.{type_with-code_of, length-code_of}
use Rattle.hsm_auth.proofs.Texts.{type-front}
use Rattle.hsm_auth.proofs.activity.typed.Goals as goal
use Rattle.hsm_auth.proofs.activity.typed.Goals.{In-Some}

long : (c : In-Some) → 4 ≤ length c.args.text.now
long c =
    let front = (c.in-Some.ensures c.in-Some.ty).0 refl in
    let code = length-code_of c.in-Some.ty in
    omega (arith, ap length front, length-take 4 c.args.text.now)

pub slice_bounds-result-count : goal.slice_bounds-result-count
slice_bounds-result-count c = long (goal.at.slice_bounds-result-count c).In-Some

pub slice_bounds-result-start : goal.slice_bounds-result-start
slice_bounds-result-start c = long (goal.at.slice_bounds-result-start c).In-Some

pub returns-in-Some-clause-every : goal.returns-in-Some-clause-every
returns-in-Some-clause-every c t p n may e =
    sym (type_with-code_of c.in-Some.ty)
    ∙ (ap (λ (x : List ℕ). type_with (drop 1 x)) (sym ((c.in-Some.ensures c.in-Some.ty).0 refl))
    ∙ (ap (λ (x : List ℕ). type_with (drop 1 (take 4 x))) e ∙ type-front t p n))
