use Rattle.std.proofs.Common.{◌≡◌, ◌<◌, ℕ, ◌∙◌, Bool, List, ap, sym, arith, bit_xor}
use Rattle.hsm_des.specs.Bits.{bits, pick, xor_bits}
use Rattle.hsm_des.specs.Tables.{box_permutation, boxes, expansion}
use Rattle.hsm_des.specs.Des.{cipher_function, substitute}
use Rattle.hsm_des.proofs.BitsLemmas.{bits-xor}
use Rattle.hsm_des.proofs.WordLemmas.{six_of, length-P}
use Rattle.hsm_des.proofs.Rounds.{half_held, mixed_so_far, mixed_none, mixed_more, mixed_all}
use Rattle.hsm_des.proofs.permutations.cipher_function.Goals as goal

pub loop-i-init : goal.loop-i-init
loop-i-init c = sym (mixed_none _)

pub loop-i-preserved : goal.loop-i-preserved
loop-i-preserved c =
    let i = c.loop-i.i in
    let sixes = bit_xor c.expand.result c.args.key in
    let there : i < 8 = omega arith in
    ap (bit_xor c.loop-i.out) c.merged_entry-out.ensures
    ∙ mixed_more i c.loop-i.out _ (bits 48 sixes) there c.loop-i.invariant (six_of i sixes there)

pub returns : goal.returns
unfolding cipher_function
returns c =
    let sixes = bit_xor c.expand.result c.args.key in
    let expanded = pick expansion (bits 32 c.args.half) in
    let digits = substitute boxes (bits 48 sixes) in
    let eight : c.loop-i.i ≡ 8 = omega arith in
    let x : bits 48 sixes ≡ xor_bits expanded (bits 48 c.args.key) =
    bits-xor 48 c.expand.result c.args.key ∙ ap (λ (bs : List Bool). xor_bits bs (bits 48 c.args.key)) c.expand.ensures in
    let wide = mixed_all c.loop-i.out (bits 48 sixes) (c.loop-i.invariant ∙ ap (λ (n : ℕ). mixed_so_far n (bits 48 sixes)) eight) in
    c.narrow.ensures
    ∙ half_held c.loop-i.out (pick box_permutation digits) (length-P digits) wide
    ∙ ap (λ (bs : List Bool). pick box_permutation (substitute boxes bs)) x
