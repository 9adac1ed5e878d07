use Rattle.std.proofs.Common.{ℕ, ◌+◌, ◌<◌, ◌∙◌, Bool, List, length, drop, map, ap, sym, arith}
use Rattle.std.proofs.lemmas.List.{drop_more}
use Rattle.hsm_des.specs.Bits.{xor_bits}
use Rattle.hsm_des.specs.Words.{half_of, round_key}
use Rattle.hsm_des.specs.Des.{after_rounds}
use Rattle.hsm_des.proofs.Rounds.{half_of-xor, wide-xor}
use Rattle.hsm_des.proofs.words.after_rounds.Goals as goal

pub loop-key-preserved : goal.loop-key-preserved
loop-key-preserved c =
    let keys = c.args.keys.now in
    let i = c.loop-key.key-index in
    let there : i < length keys = omega arith in
    let rest = map round_key (drop (i + 1) keys) in
    let left = half_of c.loop-key.left in
    let right = half_of c.loop-key.right in
    let mixed = c.cipher_function.result in
    let next = half_of-xor c.loop-key.left mixed ∙ ap (λ (m : List Bool). xor_bits left m) c.cipher_function.ensures.half in
    record {
      left = c.loop-key.invariant.right;
      right = wide-xor c.loop-key.left mixed c.loop-key.invariant.left c.cipher_function.ensures.wide;
      so_far =
          ap (λ (bs : List Bool). after_rounds rest (record { left = right; right = bs })) next
          ∙ ap (λ (ks : List ℕ). after_rounds (map round_key ks) (record { left = left; right = right })) (sym (drop_more keys i 0 there))
          ∙ c.loop-key.invariant.so_far;
    }
