use Rattle.std.proofs.Common.{◌≡◌, ℕ, ◌+◌, ◌*◌, ◌/◌, ◌%◌, ◌^◌, ◌<◌, ◌≤◌, ◌∙◌, ◌++◌, ◌∷◌, [], List, Bool, take, drop, get_or, set, map, bit_and, bit_or, refl, sym, ap, ap₂, arith, length-set, append_assoc, append-nil, take_all}
use Rattle.std.proofs.lemmas.List.{take_more_set, drop_more, drop_all, map_push}
use Rattle.std.proofs.lemmas.Nat.{shr_below, and_le_r, and_mask, or_shifted, shl_whole}
use Rattle.hsm_des.specs.Bits.{bits, pick}
use Rattle.hsm_des.specs.Des.{keys_from, round_keys, key_bits, turned}
use Rattle.hsm_des.specs.Tables.{left_shifts, key_choice, round_key_choice}
use Rattle.hsm_des.proofs.WordLemmas.{take-bits, drop-bits, bits_mod, bits_cat}
use Rattle.hsm_des.proofs.permutations.round_keys.Goals as goal

pub loop-i-init : goal.loop-i-init
unfolding round_keys key_bits
loop-i-init c =
    let chosen = c.choose_key-chosen.result in
    let all : bits 56 chosen ≡ pick key_choice (key_bits c.args.key) =
    c.choose_key-chosen.ensures.bits ∙ ap (λ (n : ℕ). pick key_choice (bits 64 n)) c.from_be_bytes.ensures in
    let front : bits 28 (chosen / 2 ^ 28) ≡ take 28 (pick key_choice (key_bits c.args.key)) = sym (take-bits 28 28 chosen) ∙ ap (take 28) all in
    let back : bits 28 (bit_and chosen 268435455) ≡ drop 28 (pick key_choice (key_bits c.args.key)) =
    ap (bits 28) (and_mask chosen 28) ∙ bits_mod 28 chosen ∙ sym (drop-bits 28 28 chosen) ∙ ap (drop 28) all in
    record {
      len = refl;
      c = shr_below chosen 28 28 c.choose_key-chosen.ensures.bound;
      d = omega (arith, and_le_r chosen 268435455);
      so_far = ap₂ (keys_from left_shifts) front back;
    }

pub loop-i-preserved : goal.loop-i-preserved
unfolding left_shifts
loop-i-preserved c =
    let i = c.loop-i.i in
    let there : i < 16 = omega arith in
    let s = get_or left_shifts i 0 in
    let rest = drop (i + 1) left_shifts in
    let front = map (bits 48) (take i c.loop-i.keys) in
    let shift : c.from-shift.result ≡ s = c.from-shift.ensures in
    let left : bits 28 c.turned-c.result ≡ turned s (bits 28 c.loop-i.c) =
    c.turned-c.ensures.bits ∙ ap (λ (n : ℕ). turned n (bits 28 c.loop-i.c)) shift in
    let right : bits 28 c.turned-d.result ≡ turned s (bits 28 c.loop-i.d) =
    c.turned-d.ensures.bits ∙ ap (λ (n : ℕ). turned n (bits 28 c.loop-i.d)) shift in
    let both : bits 56 (bit_or (c.turned-c.result * 2 ^ 28 % 2 ^ 64) c.turned-d.result) ≡ bits 28 c.turned-c.result ++ bits 28 c.turned-d.result =
    ap (λ (k : ℕ). bits 56 (bit_or k c.turned-d.result)) (shl_whole c.turned-c.result 28 28 64 c.turned-c.ensures.bound (omega arith))
    ∙ ap (bits 56) (or_shifted c.turned-c.result 28 c.turned-d.result c.turned-d.ensures.bound)
    ∙ bits_cat 28 28 c.turned-c.result c.turned-d.result c.turned-d.ensures.bound in
    let key : bits 48 c.choose_round_key.result ≡ pick round_key_choice (turned s (bits 28 c.loop-i.c) ++ turned s (bits 28 c.loop-i.d)) =
    c.choose_round_key.ensures ∙ ap (pick round_key_choice) (both ∙ ap₂ (λ (a b : List Bool). a ++ b) left right) in
    let keys : map (bits 48) (take (i + 1) (set c.loop-i.keys i c.choose_round_key.result)) ≡ front ++ bits 48 c.choose_round_key.result ∷ [] =
    ap (map (bits 48)) (take_more_set c.loop-i.keys i c.choose_round_key.result (omega (arith, c.loop-i.invariant.len)))
    ∙ map_push (bits 48) (take i c.loop-i.keys) c.choose_round_key.result in
    record {
      len = rw length-set c.loop-i.invariant.len;
      c = c.turned-c.ensures.bound;
      d = c.turned-d.ensures.bound;
      so_far =
          ap₂ (λ (a b : List (List Bool)). a ++ b) keys (ap₂ (keys_from rest) left right)
          ∙ append_assoc front (bits 48 c.choose_round_key.result ∷ []) (keys_from rest (turned s (bits 28 c.loop-i.c)) (turned s (bits 28 c.loop-i.d)))
          ∙ ap (λ (k : List Bool). front ++ (k ∷ keys_from rest (turned s (bits 28 c.loop-i.c)) (turned s (bits 28 c.loop-i.d)))) key
          ∙ ap (λ (shifts : List ℕ). front ++ keys_from shifts (bits 28 c.loop-i.c) (bits 28 c.loop-i.d)) (sym (drop_more left_shifts i 0 there))
          ∙ c.loop-i.invariant.so_far;
    }

pub returns : goal.returns
unfolding left_shifts
returns c =
    let i : 16 ≤ c.loop-i.i = omega arith in
    let none : drop c.loop-i.i left_shifts ≡ [] = drop_all c.loop-i.i left_shifts i in
    ap (map (bits 48)) (sym (take_all c.loop-i.i c.loop-i.keys (omega (arith, c.loop-i.invariant.len))))
    ∙ sym (append-nil (map (bits 48) (take c.loop-i.i c.loop-i.keys)))
    ∙ ap (λ (shifts : List ℕ). map (bits 48) (take c.loop-i.i c.loop-i.keys) ++ keys_from shifts (bits 28 c.loop-i.c) (bits 28 c.loop-i.d)) (sym none)
    ∙ c.loop-i.invariant.so_far
