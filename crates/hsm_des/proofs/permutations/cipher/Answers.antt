use Rattle.std.proofs.Common.{◌≡◌, ℕ, ◌*◌, ◌/◌, ◌%◌, ◌^◌, ◌∙◌, Bool, List, map, ap, ap₂, sym, arith, bit_and, bit_or}
use Rattle.hsm_des.specs.Bits.{bits, number, pick}
use Rattle.hsm_des.specs.Tables.{initial_permutation, final_permutation}
use Rattle.hsm_des.specs.Des.{after_rounds, Halves, halves, exchanged, joined, cipher}
use Rattle.hsm_des.proofs.WordLemmas.{halves_of_word, joined_word}
use Rattle.hsm_des.proofs.permutations.cipher.Goals as goal

pub returns : goal.returns
unfolding cipher
returns c =
    let keys = map (bits 48) c.args.keys.now in
    let x = c.initial-x.result in
    let left = c.after_rounds-left.result.0 in
    let right = c.after_rounds-left.result.1 in
    let split : record { left = bits 32 (x / 2 ^ 32); right = bits 32 (bit_and x 4294967295) } ≡ halves (pick initial_permutation (bits 64 c.args.block)) =
    sym (halves_of_word x) ∙ ap halves c.initial-x.ensures in
    let ended = c.after_rounds-left.ensures ∙ ap (after_rounds keys) split in
    c.last.ensures
    ∙ ap (λ (bs : List Bool). number (pick final_permutation bs))
    (ap₂ (λ (r l : ℕ). bits 64 (bit_or (r * 2 ^ 32 % 2 ^ 64) l)) c.from.ensures c.from-2.ensures
    ∙ joined_word right left (omega arith) (omega arith)
    ∙ ap (λ (h : Halves). joined (exchanged h)) ended)
