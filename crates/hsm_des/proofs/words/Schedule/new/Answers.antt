use Rattle.std.proofs.Common.{◌≡◌, ℕ, ◌∷◌, ◌∙◌, List, take, drop, refl, ap, ap₂, arith}
use Rattle.hsm_des.specs.Bits.{bits, pick}
use Rattle.hsm_des.specs.Des.{keys_from, round_keys, key_bits}
use Rattle.hsm_des.specs.Tables.{left_shifts, key_choice}
use Rattle.hsm_des.specs.Words.{round_key}
use Rattle.hsm_des.proofs.Rounds.{key_after, keys_after, places_turned, round_key_turned, twice_over}
use Rattle.hsm_des.proofs.words.Schedule.new.Goals as goal

cons : {A : Type 0} {x y : A} {xs ys : List A} → x ≡ y → xs ≡ ys → x ∷ xs ≡ y ∷ ys
cons {A = A} first rest = ap₂ (λ (k : A) (ks : List A). k ∷ ks) first rest

pub invariant_of-result : goal.invariant_of-result
invariant_of-result c =
    cons c.round_key_at.ensures.word (cons c.round_key_at-2.ensures.word (cons c.round_key_at-3.ensures.word (cons c.round_key_at-4.ensures.word
    (cons c.round_key_at-5.ensures.word (cons c.round_key_at-6.ensures.word (cons c.round_key_at-7.ensures.word (cons c.round_key_at-8.ensures.word
    (cons c.round_key_at-9.ensures.word (cons c.round_key_at-10.ensures.word (cons c.round_key_at-11.ensures.word (cons c.round_key_at-12.ensures.word
    (cons c.round_key_at-13.ensures.word (cons c.round_key_at-14.ensures.word (cons c.round_key_at-15.ensures.word (cons c.round_key_at-16.ensures.word refl)))))))))))))))

pub returns : goal.returns
unfolding round_keys key_bits places_turned
returns c =
    let left = c.choose_key-left.result.0 in
    let right = c.choose_key-left.result.1 in
    let cs = twice_over left c.choose_key-left.ensures.left_bound in
    let ds = twice_over right c.choose_key-left.ensures.right_bound in
    let k1 : round_key c.round_key_at.result ≡ key_after left right 1 = round_key_turned left right c.round_key_at.result 1 (omega arith) _ _ cs ds c.round_key_at.ensures.key in
    let k2 : round_key c.round_key_at-2.result ≡ key_after left right 2 = round_key_turned left right c.round_key_at-2.result 2 (omega arith) _ _ cs ds c.round_key_at-2.ensures.key in
    let k3 : round_key c.round_key_at-3.result ≡ key_after left right 4 = round_key_turned left right c.round_key_at-3.result 4 (omega arith) _ _ cs ds c.round_key_at-3.ensures.key in
    let k4 : round_key c.round_key_at-4.result ≡ key_after left right 6 = round_key_turned left right c.round_key_at-4.result 6 (omega arith) _ _ cs ds c.round_key_at-4.ensures.key in
    let k5 : round_key c.round_key_at-5.result ≡ key_after left right 8 = round_key_turned left right c.round_key_at-5.result 8 (omega arith) _ _ cs ds c.round_key_at-5.ensures.key in
    let k6 : round_key c.round_key_at-6.result ≡ key_after left right 10 = round_key_turned left right c.round_key_at-6.result 10 (omega arith) _ _ cs ds c.round_key_at-6.ensures.key in
    let k7 : round_key c.round_key_at-7.result ≡ key_after left right 12 = round_key_turned left right c.round_key_at-7.result 12 (omega arith) _ _ cs ds c.round_key_at-7.ensures.key in
    let k8 : round_key c.round_key_at-8.result ≡ key_after left right 14 = round_key_turned left right c.round_key_at-8.result 14 (omega arith) _ _ cs ds c.round_key_at-8.ensures.key in
    let k9 : round_key c.round_key_at-9.result ≡ key_after left right 15 = round_key_turned left right c.round_key_at-9.result 15 (omega arith) _ _ cs ds c.round_key_at-9.ensures.key in
    let k10 : round_key c.round_key_at-10.result ≡ key_after left right 17 = round_key_turned left right c.round_key_at-10.result 17 (omega arith) _ _ cs ds c.round_key_at-10.ensures.key in
    let k11 : round_key c.round_key_at-11.result ≡ key_after left right 19 = round_key_turned left right c.round_key_at-11.result 19 (omega arith) _ _ cs ds c.round_key_at-11.ensures.key in
    let k12 : round_key c.round_key_at-12.result ≡ key_after left right 21 = round_key_turned left right c.round_key_at-12.result 21 (omega arith) _ _ cs ds c.round_key_at-12.ensures.key in
    let k13 : round_key c.round_key_at-13.result ≡ key_after left right 23 = round_key_turned left right c.round_key_at-13.result 23 (omega arith) _ _ cs ds c.round_key_at-13.ensures.key in
    let k14 : round_key c.round_key_at-14.result ≡ key_after left right 25 = round_key_turned left right c.round_key_at-14.result 25 (omega arith) _ _ cs ds c.round_key_at-14.ensures.key in
    let k15 : round_key c.round_key_at-15.result ≡ key_after left right 27 = round_key_turned left right c.round_key_at-15.result 27 (omega arith) _ _ cs ds c.round_key_at-15.ensures.key in
    let k16 : round_key c.round_key_at-16.result ≡ key_after left right 28 = round_key_turned left right c.round_key_at-16.result 28 (omega arith) _ _ cs ds c.round_key_at-16.ensures.key in
    cons k1 (cons k2 (cons k3 (cons k4 (cons k5 (cons k6 (cons k7 (cons k8 (cons k9 (cons k10 (cons k11 (cons k12 (cons k13 (cons k14 (cons k15 (cons k16 refl)))))))))))))))
    ∙ keys_after left right
    ∙ ap₂ (keys_from left_shifts) c.choose_key-left.ensures.left c.choose_key-left.ensures.right
    ∙ ap (λ (n : ℕ). keys_from left_shifts (take 28 (pick key_choice (bits 64 n))) (drop 28 (pick key_choice (bits 64 n)))) c.from_be_bytes.ensures
