use Rattle.std.proofs.Common.{◌≡◌, ℕ, ◌+◌, ◌-◌, ◌<◌, ◌∙◌, ◌∷◌, [], Bool, List, length, get_or, take, map, reverse, ap, sym, arith, take_all, bit_xor}
use Rattle.std.proofs.lemmas.List.{take_more, reverse-append}
use Rattle.hsm_des.specs.Bits.{xor_bits}
use Rattle.hsm_des.specs.Words.{half_of, round_key}
use Rattle.hsm_des.specs.Des.{after_rounds}
use Rattle.hsm_des.proofs.Rounds.{half_of-xor, wide-xor}
use Rattle.hsm_des.proofs.words.back_rounds.Goals as goal

pub loop-i-init : goal.loop-i-init
loop-i-init c = record {
  left = c.requires.left;
  right = c.requires.right;
  so_far =
      ap (λ (ks : List ℕ). after_rounds (map round_key (reverse ks)) (record { left = half_of c.args.left; right = half_of c.args.right }))
      (take_all 16 c.args.keys.now (omega arith));
}

pub loop-i-preserved : goal.loop-i-preserved
loop-i-preserved c =
    let keys = c.args.keys.now in
    let i = c.loop-i.i in
    let j = 15 - i in
    let there : j < length keys = omega arith in
    let after : 16 - (i + 1) ≡ j = omega arith in
    let before : 16 - i ≡ j + 1 = omega arith in
    let key = get_or keys j 0 in
    let left = half_of c.loop-i.left in
    let right = half_of c.loop-i.right in
    let mixed = c.cipher_function.result in
    let next = half_of-xor c.loop-i.left mixed ∙ ap (λ (m : List Bool). xor_bits left m) c.cipher_function.ensures.half in
    let all : reverse (take (16 - i) keys) ≡ key ∷ reverse (take j keys) =
    ap (λ (n : ℕ). reverse (take n keys)) before ∙ ap reverse (take_more keys j 0 there) ∙ reverse-append (take j keys) (key ∷ []) in
    record {
      left = c.loop-i.invariant.right;
      right = wide-xor c.loop-i.left mixed c.loop-i.invariant.left c.cipher_function.ensures.wide;
      so_far =
          ap (λ (n : ℕ). after_rounds (map round_key (reverse (take n keys))) (record { left = right; right = half_of (bit_xor c.loop-i.left mixed) })) after
          ∙ ap (λ (bs : List Bool). after_rounds (map round_key (reverse (take j keys))) (record { left = right; right = bs })) next
          ∙ ap (λ (ks : List ℕ). after_rounds (map round_key ks) (record { left = left; right = right })) (sym all)
          ∙ c.loop-i.invariant.so_far;
    }

pub returns : goal.returns
returns c =
    let none : 16 - c.loop-i.i ≡ 0 = omega arith in
    record {
      halves =
          ap (λ (n : ℕ). after_rounds (map round_key (reverse (take n c.args.keys.now))) (record { left = half_of c.loop-i.left; right = half_of c.loop-i.right })) (sym none)
          ∙ c.loop-i.invariant.so_far;
      left_wide = c.loop-i.invariant.left;
      right_wide = c.loop-i.invariant.right;
    }
