use Rattle.std.proofs.Common.{◌≡◌, ℕ, ◌+◌, ◌-◌, ◌*◌, ◌<◌, ◌∙◌, ◌++◌, [], List, Bool, length, take, drop, get_or, refl, sym, ap, ap₂, arith, take_all, length-take, length-append, length-drop}
use Rattle.std.proofs.lemmas.List.{take_more, length-take-le}
use Rattle.std.proofs.lemmas.Slice.{take-put_mid}
use Rattle.hsm_des.specs.Bits.{bits}
use Rattle.hsm_des.specs.Des.{box_digit, substitute}
use Rattle.hsm_des.specs.Tables.{boxes, box1, box2, box3, box4, box5, box6, box7, box8}
use Rattle.hsm_des.proofs.BitsLemmas.{length-bits}
use Rattle.hsm_des.proofs.DesLaws.{substitute_push}
use Rattle.hsm_des.proofs.plain.substitute.Goals as goal

pub loop-i-preserved : goal.loop-i-preserved
unfolding boxes box1 box2 box3 box4 box5 box6 box7 box8
loop-i-preserved c =
    let i = c.loop-i.i in
    let x = c.args.x.now in
    let out = c.loop-i.out in
    let new = c.copy_from_slice.new.self in
    let digit = c.box_digit-digit.result in
    let four : new ≡ bits 4 digit = c.copy_from_slice.ensures.after ∙ c.bits_of.ensures ∙ ap (bits 4) c.from.ensures in
    let len : length new ≡ 4 = ap length four ∙ length-bits 4 digit in
    let there : i < length boxes = omega arith in
    let before : length (take i boxes) ≡ i = length-take-le i boxes (omega arith) in
    let six : 6 * i + 6 - 6 * i ≡ 6 = omega arith in
    let read : digit ≡ box_digit (get_or boxes i []) (take 6 (drop (6 * length (take i boxes)) x)) =
    c.box_digit-digit.ensures
    ∙ ap (λ (n : ℕ). box_digit (get_or boxes i []) (take n (drop (6 * i) x))) six
    ∙ ap (λ (n : ℕ). box_digit (get_or boxes i []) (take 6 (drop (6 * n) x))) (sym before) in (
      simp (length-append, length-take, length-drop, len) (omega (arith, c.loop-i.invariant.0)),
      take-put_mid (4 * i) (4 * i + 4 - 4 * i) out new (4 * (i + 1)) (omega arith) (omega (arith, c.loop-i.invariant.0))
          ∙ ap₂ (λ (a b : List Bool). a ++ b) c.loop-i.invariant.1 (four ∙ ap (bits 4) read)
          ∙ sym (ap (λ (front : List (List (List ℕ))). substitute front x) (take_more boxes i [] there)
          ∙ substitute_push (take i boxes) (get_or boxes i []) x),
    )

eight : take 8 boxes ≡ boxes
unfolding boxes
eight = refl

pub returns : goal.returns
returns c =
    let i : c.loop-i.i ≡ 8 = omega arith in
    sym (take_all (4 * c.loop-i.i) c.loop-i.out (omega (arith, c.loop-i.invariant.0)))
    ∙ c.loop-i.invariant.1 ∙ ap (λ (n : ℕ). substitute (take n boxes) c.args.x.now) i ∙ ap (λ (front : List (List (List ℕ))). substitute front c.args.x.now) eight
