use Rattle.std.proofs.Common.{◌≡◌, ℕ, ◌+◌, ◌<◌, ◌≤◌, ◌∙◌, ◌++◌, ◌∷◌, [], List, Bool, take, drop, get_or, refl, sym, ap, ap₂, arith, length-set, append_assoc, append-nil, take_all}
use Rattle.std.proofs.lemmas.List.{take_more_set, drop_more, drop_all}
use Rattle.hsm_des.specs.Bits.{bits, pick}
use Rattle.hsm_des.specs.Des.{keys_from, round_keys, key_bits, turned}
use Rattle.hsm_des.specs.Tables.{left_shifts, key_choice, round_key_choice}
use Rattle.hsm_des.proofs.plain.round_keys.Goals as goal

pub loop-i-init : goal.loop-i-init
unfolding round_keys key_bits
loop-i-init c =
    let chosen : c.choose_key-chosen.result ≡ pick key_choice (key_bits c.args.key) =
    c.choose_key-chosen.ensures ∙ ap (pick key_choice) (c.bits_of.ensures ∙ ap (bits 64) c.from_be_bytes.ensures) in (
      refl,
      ap₂ (keys_from left_shifts) (c.split.ensures.left ∙ ap (take 28) chosen) (c.split.ensures.right ∙ ap (drop 28) chosen),
    )

pub loop-i-preserved : goal.loop-i-preserved
unfolding left_shifts
loop-i-preserved c =
    let i = c.loop-i.i in
    let there : i < 16 = omega arith in
    let s = get_or left_shifts i 0 in
    let rest = drop (i + 1) left_shifts in
    let front = take i c.loop-i.keys in
    let left = c.rotate_left.ensures.after in
    let right = c.rotate_left-in-loop-i.ensures.after in
    let key : c.choose_round_key.result ≡ pick round_key_choice (turned s c.loop-i.c ++ turned s c.loop-i.d) =
    c.choose_round_key.ensures ∙ ap (pick round_key_choice) (c.join.ensures ∙ ap₂ (λ (a b : List Bool). a ++ b) left right) in (
      rw length-set c.loop-i.invariant.0,
      ap₂ (λ (a b : List (List Bool)). a ++ b)
          (take_more_set c.loop-i.keys i c.choose_round_key.result (omega (arith, c.loop-i.invariant.0)))
          (ap₂ (keys_from rest) left right)
          ∙ append_assoc front (c.choose_round_key.result ∷ []) (keys_from rest (turned s c.loop-i.c) (turned s c.loop-i.d))
          ∙ ap (λ (k : List Bool). front ++ (k ∷ keys_from rest (turned s c.loop-i.c) (turned s c.loop-i.d))) key
          ∙ ap (λ (shifts : List ℕ). front ++ keys_from shifts c.loop-i.c c.loop-i.d) (sym (drop_more left_shifts i 0 there))
          ∙ c.loop-i.invariant.1,
    )

pub returns : goal.returns
unfolding left_shifts
returns c =
    let i : 16 ≤ c.loop-i.i = omega arith in
    let none : drop c.loop-i.i left_shifts ≡ [] = drop_all c.loop-i.i left_shifts i in
    sym (take_all c.loop-i.i c.loop-i.keys (omega (arith, c.loop-i.invariant.0)))
    ∙ sym (append-nil (take c.loop-i.i c.loop-i.keys))
    ∙ ap (λ (shifts : List ℕ). take c.loop-i.i c.loop-i.keys ++ keys_from shifts c.loop-i.c c.loop-i.d) (sym none)
    ∙ c.loop-i.invariant.1
