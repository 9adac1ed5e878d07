use Rattle.std.proofs.Common.{◌≡◌, ◌+◌, ◌*◌, ◌^◌, ◌<◌, ◌++◌, ◌∙◌, Bool, List, ap, ap₂, arith, take-append-drop}
use Rattle.hsm_des.specs.Bits.{bits, pick}
use Rattle.hsm_des.specs.Tables.{initial_permutation}
use Rattle.hsm_des.proofs.WordLemmas.{bits_cat}
use Rattle.hsm_des.proofs.Exchanges.{chosen_left, chosen_right, chosen_left_of, chosen_right_of, chosen_left_joined, chosen_right_joined, chosen_left_bits, chosen_right_bits, chosen_left-lt, chosen_right-lt}
use Rattle.hsm_des.proofs.words.choose_key.Goals as goal

pub returns : goal.returns
unfolding chosen_left_of chosen_right_of
returns c =
    let left = c.initial-left.result.0 in
    let right = c.initial-left.result.1 in
    let x = left * 2 ^ 32 + right in
    let l : left < 2 ^ 32 = omega arith in
    let r : right < 2 ^ 32 = omega arith in
    let small : x < 2 ^ 64 = omega arith in
    let y = pick initial_permutation (bits 64 c.args.key) in
    let permuted : bits 64 x ≡ y =
    bits_cat 32 32 left right r ∙ ap₂ (λ (a b : List Bool). a ++ b) c.initial-left.ensures.left c.initial-left.ensures.right ∙ take-append-drop 32 y in
    let front : c.from.result ≡ chosen_left x = c.from.ensures ∙ chosen_left_joined left right r in
    let back : c.from-2.result ≡ chosen_right x = c.from-2.ensures ∙ chosen_right_joined left right r in
    record {
      left = ap (bits 28) front ∙ chosen_left_bits x c.args.key small permuted;
      right = ap (bits 28) back ∙ chosen_right_bits x c.args.key small permuted;
      left_bound = rw front (chosen_left-lt x small);
      right_bound = rw back (chosen_right-lt x small);
    }
