use Rattle.std.proofs.Common.{◌≡◌, ℕ, ◌+◌, ◌-◌, ◌*◌, ◌^◌, ◌<◌, ◌≤◌, ◌∙◌, ◌&&◌, nat_lt, nat_le, List, length, get_or, take, ap, ap₂, sym, refl, arith, pow_mono, take_all}
use Rattle.std.specs.List.{list_all}
use Rattle.std.specs.Int.{bit_at}
use Rattle.std.proofs.lemmas.List.{take_more, length-take-le}
use Rattle.std.proofs.lemmas.List.Recursion.{and_at}
use Rattle.std.proofs.lemmas.Bool.{and_parts, ltb-true, leb-true}
use Rattle.std.proofs.lemmas.Nat.Bits.{shr_and_one, bit_at-lt}
use Rattle.hsm_des.specs.Bits.{bits, number, pick, bit_of}
use Rattle.hsm_des.proofs.BitsLemmas.{number_push, number-lt, length-pick, pick_push, bit_of-bits, shift_in}
use Rattle.hsm_des.proofs.permutations.permute.Goals as goal

pub loop-position-preserved : goal.loop-position-preserved
loop-position-preserved g c =
    let table = c.args.table.now in
    let w = c.args.width in
    let x = bits w c.args.x in
    let i = c.loop-position.position-index in
    let p = get_or table i 0 in
    let out = c.loop-position.out in
    let there : i < length table = omega arith in
    let entry = and_parts _ _ (and_at (list_all (λ q. nat_lt 0 q && nat_le q w)) (λ q. nat_lt 0 q && nat_le q w) refl (λ _ _. refl) table i 0 there c.requires.entries) in
    let from : 0 < p = ltb-true 0 p entry.0 in
    let to : p ≤ w = leb-true p w entry.1 in
    let len : length (pick (take i table) x) ≡ i = length-pick (take i table) x ∙ length-take-le i table (omega arith) in
    let short : length (pick (take i table) x) ≤ 63 = omega (arith, c.requires.length) in
    let bound : 2 ^ length (pick (take i table) x) ≤ 2 ^ 63 = pow_mono short in
    let small : out < 2 ^ 63 = omega (arith, c.loop-position.invariant, number-lt (pick (take i table) x)) in
    let digit = bit_at c.args.x (w - p) in
    rw (c.from.ensures, shr_and_one c.args.x (w - p))
    (shift_in out digit small (bit_at-lt c.args.x (w - p))
    ∙ ap₂ (λ (m n : ℕ). 2 * m + n) c.loop-position.invariant (sym (bit_of-bits w c.args.x p from to))
    ∙ sym (ap (λ (t : List ℕ). number (pick t x)) (take_more table i 0 there) ∙ ap number (pick_push (take i table) p x) ∙ number_push (pick (take i table) x) (bit_of x p)))

pub returns-clause-bound : goal.returns-clause-bound
returns-clause-bound g c =
    let table = c.args.table.now in
    let x = bits c.args.width c.args.x in
    let all : take c.loop-position.position-index table ≡ table = take_all c.loop-position.position-index table (omega arith) in
    let value : c.loop-position.out ≡ number (pick table x) = c.loop-position.invariant ∙ ap (λ (t : List ℕ). number (pick t x)) all in
    let len : length (pick table x) ≡ g.row.N = length-pick table x ∙ c.told-table in
    let below = number-lt (pick table x) in
    rw value (rw len at below)
