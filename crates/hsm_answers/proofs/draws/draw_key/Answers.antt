use Rattle.std.proofs.Common.{◌≡◌, ◌∙◌, ◌+◌, ◌∷◌, [], List, ℕ, sym, ap, ap₂, arith}
use Rattle.hsm_answers.specs.Draws.{drawn_key, drawn_part, unlike}
use Rattle.hsm_answers.proofs.draws.draw_key.Goals as goal

pub returns-clause-key : goal.returns-clause-key
unfolding drawn_key
returns-clause-key c =
    let m = c.args.module.now in
    let p = c.args.place in
    let three : c.args.parts ≡ 3 = omega (arith, c.requires.some, c.requires.most, c.if-parts-eq1.false, c.if-parts-eq2.false) in
    let x = unlike [] (drawn_part m p) in
    let y = unlike x (drawn_part m (p + 2)) in
    let z = unlike y (drawn_part m (p + 2 + 2)) in
    let first : c.unlike-a.result ≡ x = c.unlike-a.ensures ∙ ap (unlike []) c.part_at.ensures in
    let second : c.unlike-b.result ≡ y = c.unlike-b.ensures ∙ ap₂ unlike first c.part_at-2.ensures in
    let third : c.unlike-c.result ≡ z = c.unlike-c.ensures ∙ ap₂ unlike second c.part_at-3.ensures in
    c.three.ensures
    ∙ (ap₂ (λ (a b : List ℕ). a ∷ b ∷ c.unlike-c.result ∷ []) first second
    ∙ (ap (λ (a : List ℕ). x ∷ y ∷ a ∷ []) third ∙ ap (drawn_key m p) (sym three)))
