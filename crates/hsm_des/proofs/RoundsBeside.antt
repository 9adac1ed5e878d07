-- Rounds of a block between IP and its inverse, on halves in wide form.
use Rattle.std.proofs.Common.{◌≡◌, ℕ, ◌+◌, ◌-◌, ◌<◌, ◌^◌, ◌∙◌, Bool, List, [], ◌∷◌, length, get_or, map, reverse, take, drop, bit_xor, refl, sym, ap, ap₂, arith, take_all}
use Rattle.std.proofs.lemmas.List.{drop_more, drop_all, take_more, reverse-append}
use Rattle.hsm_des.specs.Bits.{bits, number, pick}
use Rattle.hsm_des.specs.Tables.{initial_permutation, final_permutation}
use Rattle.hsm_des.specs.Des.{Halves, halves, joined, exchanged, round, after_rounds, cipher, encrypted, decrypted}
use Rattle.hsm_des.specs.Words.{half_of, half_places, round_key}
use Rattle.hsm_des.specs.Beside.{AreWide, block_held, held}
use Rattle.hsm_des.proofs.BitsLemmas.{length-bits, length-pick, number-bits_below}
use Rattle.hsm_des.proofs.DesLaws.{AreHalves, cipher_again, final_initial, joined-halves}
use Rattle.hsm_des.proofs.Rounds.{map_reverse}
use Rattle.hsm_des.proofs.WordLemmas.{bits_number_at}

-- ---- the halves that words hold

length-half_of : (word : ℕ) → length (half_of word) ≡ 32
unfolding half_places
length-half_of word = length-pick half_places (bits 64 word)

are_halves : (words : ℕ × ℕ) → AreHalves (held words)
are_halves words = record { left = length-half_of words.0; right = length-half_of words.1 }

length-final : (x : List Bool) → length (pick final_permutation x) ≡ 64
unfolding final_permutation
length-final x = length-pick final_permutation x

-- IP and its inverse
pub block_held-initial : (words : ℕ × ℕ) (block : ℕ) → block < 2 ^ 64 → held words ≡ halves (pick initial_permutation (bits 64 block)) → block_held words ≡ block
unfolding block_held
block_held-initial words block small is =
    ap (λ (h : Halves). number (pick final_permutation (joined h))) is
    ∙ ap (λ (x : List Bool). number (pick final_permutation x)) (joined-halves (pick initial_permutation (bits 64 block)))
    ∙ ap number (final_initial (bits 64 block) (length-bits 64 block))
    ∙ number-bits_below 64 block small

-- the rounds between, and the exchange after them
between : (keys : List (List Bool)) (start last : ℕ × ℕ) → after_rounds keys (held start) ≡ held last
    → block_held (last.1, last.0) ≡ number (cipher keys (bits 64 (block_held start)))
unfolding block_held
between keys start last is =
    let x = pick final_permutation (joined (held start)) in
    sym (ap (λ (bs : List Bool). number (cipher keys bs)) (bits_number_at 64 x (length-final (joined (held start))))
    ∙ ap number (cipher_again keys (held start) (are_halves start))
    ∙ ap (λ (h : Halves). number (pick final_permutation (joined (exchanged h)))) is)

-- ---- the rounds that are left

-- a block on its way from `start`, with these keys left of all of them
pub record IsUnderWay (left all : List ℕ) (start now : ℕ × ℕ) : Type 0 where
  pub wide : AreWide now
  pub so_far : after_rounds (map round_key left) (held now) ≡ after_rounds (map round_key all) (held start)

abbrev pub IsAhead : List ℕ → ℕ → ℕ × ℕ → ℕ × ℕ → Type 0
IsAhead keys i start now = IsUnderWay (drop i keys) keys start now

abbrev pub IsBack : List ℕ → ℕ → ℕ × ℕ → ℕ × ℕ → Type 0
IsBack keys i start now = IsUnderWay (reverse (take (16 - i) keys)) (reverse keys) start now

-- one more round
one_round : (left more all : List ℕ) (key : ℕ) (start now next : ℕ × ℕ) → left ≡ key ∷ more → IsUnderWay left all start now
    → held next ≡ round (held now) (round_key key) → AreWide next → IsUnderWay more all start next
one_round left more all key start now next first under is wide = record {
  wide = wide;
  so_far =
      ap (after_rounds (map round_key more)) is
      ∙ ap (λ (ks : List ℕ). after_rounds (map round_key ks) (held now)) (sym first)
      ∙ under.so_far;
}

pub ahead_round : (keys : List ℕ) (i : ℕ) (start now next : ℕ × ℕ) → i < length keys → IsAhead keys i start now
    → held next ≡ round (held now) (round_key (get_or keys i 0)) → AreWide next → IsAhead keys (i + 1) start next
ahead_round keys i start now next there under is wide =
    one_round (drop i keys) (drop (i + 1) keys) keys (get_or keys i 0) start now next (drop_more keys i 0 there) under is wide

pub back_round : (keys : List ℕ) (i : ℕ) (start now next : ℕ × ℕ) → length keys ≡ 16 → i < 16 → IsBack keys i start now
    → held next ≡ round (held now) (round_key (get_or keys (15 - i) 0)) → AreWide next → IsBack keys (i + 1) start next
back_round keys i start now next len there under is wide =
    let j = 15 - i in
    let after : 16 - (i + 1) ≡ j = omega arith in
    let before : 16 - i ≡ j + 1 = omega arith in
    let within : j < length keys = omega arith in
    let key = get_or keys j 0 in
    let more = ap (λ (n : ℕ). key ∷ reverse (take n keys)) (sym after) in
    one_round (reverse (take (16 - i) keys)) (reverse (take (16 - (i + 1)) keys)) (reverse keys) key start now next
    (ap (λ (n : ℕ). reverse (take n keys)) before ∙ ap reverse (take_more keys j 0 within) ∙ reverse-append (take j keys) (key ∷ []) ∙ more)
    under is wide

-- ---- the first and the last

pub ahead_start : (keys : List ℕ) (start : ℕ × ℕ) → AreWide start → IsAhead keys 0 start start
ahead_start keys start wide = record { wide = wide; so_far = refl }

pub back_start : (keys : List ℕ) (start : ℕ × ℕ) → length keys ≡ 16 → AreWide start → IsBack keys 0 start start
back_start keys start len wide = record {
  wide = wide;
  so_far = ap (λ (ks : List ℕ). after_rounds (map round_key (reverse ks)) (held start)) (take_all 16 keys (omega arith));
}

pub ahead_end : (keys : List ℕ) (i : ℕ) (start last : ℕ × ℕ) → length keys ≡ 16 → 16 - i ≡ 0 → IsAhead keys i start last
    → block_held (last.1, last.0) ≡ encrypted (map round_key keys) (block_held start)
unfolding encrypted
ahead_end keys i start last len done under =
    let none : drop i keys ≡ [] = drop_all i keys (omega (arith, len, done)) in
    between (map round_key keys) start last
    (sym under.so_far ∙ ap (λ (ks : List ℕ). after_rounds (map round_key ks) (held last)) none)

pub back_end : (keys : List ℕ) (i : ℕ) (start last : ℕ × ℕ) → 16 - i ≡ 0 → IsBack keys i start last
    → block_held (last.1, last.0) ≡ decrypted (map round_key keys) (block_held start)
unfolding decrypted
back_end keys i start last done under =
    between (reverse (map round_key keys)) start last
    (ap (λ (ks : List (List Bool)). after_rounds ks (held start)) (sym (map_reverse round_key keys))
    ∙ sym under.so_far
    ∙ ap (λ (n : ℕ). after_rounds (map round_key (reverse (take n keys))) (held last)) done)

pub both_wide : (words : ℕ × ℕ) → AreWide words → AreWide (words.1, words.0)
both_wide words wide = (wide.1, wide.0)
