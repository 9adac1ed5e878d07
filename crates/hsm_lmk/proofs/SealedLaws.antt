-- A key is sealed by just one text of bytes, and each text of bytes is some key sealed.
use Rattle.std.proofs.Common.{◌≡◌, ℕ, zero, suc, ◌+◌, ◌*◌, ◌^◌, ◌<◌, ◌∙◌, List, [], ◌∷◌, ◌++◌, length, get_or, take, drop, All, refl, sym, ap, ap₂, arith, w64, length-append, length-drop, take_at, drop_at, take-append-drop, length-take-le, length-take, get_or-take, inl, inr, ◌≤◌}
use Rattle.std.specs.Int.{from_be_bytes, to_be_bytes}
use Rattle.std.specs.List.{AllByRecursion}
use Rattle.std.proofs.lemmas.Nat.{be_bytes_8, from_be_bytes-to_be_bytes_8}
use Rattle.std.proofs.lemmas.List.{get_or-drop, get_or_past}
use Rattle.std.proofs.lemmas.Bool.{cases_lt}
use Rattle.hsm_tdes.specs.Tdes.{IsKey, IsPart, enciphered, deciphered}
use Rattle.hsm_tdes.proofs.TdesLaws.{enciphered-deciphered, enciphered-lt, deciphered-lt}
use Rattle.hsm_types.specs.Schemes.{scheme_parts}
use Rattle.hsm_types.specs.declared.types.Scheme.{Scheme}
use Rattle.hsm_types.specs.declared.types.Scheme.TheVariants.{Z, P, U, T, X, Y}
use Rattle.hsm_lmk.specs.Sealing.{Sealed, under, block_at, block_of}
use Rattle.hsm_lmk.specs.Opened.{opened, opened_from, sealed, sealed_from}
use Rattle.hsm_lmk.proofs.SealingLaws.{block_of-lt}
use Rattle.hsm_lmk.proofs.OpenedLaws.{first_block, next_block}

-- a list of bytes
abbrev pub AllBytes : List ℕ → Type 0
AllBytes bytes = All (λ byte. byte < 2 ^ 8) bytes

-- ---- the blocks of a sealed text

pub length-sealed_from : (w : List (List ℕ)) (s : Scheme) (i : ℕ) (key : List (List ℕ)) → length (sealed_from w s i key) ≡ 8 * length key
length-sealed_from w s i [] = refl
length-sealed_from w s i (part ∷ key) =
    let front : length (to_be_bytes w64 (enciphered (under w s i) (block_of part))) ≡ 8 = refl in
    length-append (to_be_bytes w64 (enciphered (under w s i) (block_of part))) (sealed_from w s (i + 1) key)
    ∙ omega (arith, front, length-sealed_from w s (i + 1) key)

front_block : (n : ℕ) (rest : List ℕ) → n < 2 ^ 64 → block_at (to_be_bytes w64 n ++ rest) 0 ≡ n
unfolding block_of
front_block n rest small =
    sym (first_block (to_be_bytes w64 n ++ rest))
    ∙ ap (from_be_bytes w64) (take_at (to_be_bytes w64 n) rest 8 refl)
    ∙ from_be_bytes-to_be_bytes_8 n small

later_block : (n : ℕ) (rest : List ℕ) (j : ℕ) → block_at (to_be_bytes w64 n ++ rest) (suc j) ≡ block_at rest j
later_block n rest j =
    sym (next_block (to_be_bytes w64 n ++ rest) j)
    ∙ ap (λ (bytes : List ℕ). block_at bytes j) (drop_at (to_be_bytes w64 n) rest 8 refl)

block_at-sealed_from : (w : List (List ℕ)) (s : Scheme) (i : ℕ) (key : List (List ℕ)) → AllByRecursion IsPart key
    → (j : ℕ) → j < length key → block_at (sealed_from w s i key) j ≡ enciphered (under w s (i + j)) (block_of (get_or key j []))
block_at-sealed_from w s i [] parts j h = absurd (omega arith)
block_at-sealed_from w s i (part ∷ key) parts zero h =
    let at : i ≡ i + 0 = omega arith in
    front_block (enciphered (under w s i) (block_of part)) (sealed_from w s (i + 1) key) (enciphered-lt (under w s i) (block_of part) (block_of-lt part parts.0))
    ∙ ap (λ (k : ℕ). enciphered (under w s k) (block_of part)) at
block_at-sealed_from w s i (part ∷ key) parts (suc j) h =
    let next : i + 1 + j ≡ i + suc j = omega arith in
    later_block (enciphered (under w s i) (block_of part)) (sealed_from w s (i + 1) key) j
    ∙ block_at-sealed_from w s (i + 1) key parts.1 j (omega arith)
    ∙ ap (λ (k : ℕ). enciphered (under w s k) (block_of (get_or key j []))) next

-- the sealed text is one
pub sealed_is_sealed : (w : List (List ℕ)) (s : Scheme) (key : List (List ℕ)) → IsKey key → length key ≡ scheme_parts s → Sealed w s key (sealed w s key)
unfolding sealed
sealed_is_sealed w s key is count = record {
  is_key = is;
  parts = count;
  size = length-sealed_from w s 0 key ∙ ap (λ (n : ℕ). 8 * n) count;
  each = λ i h.
      let zero_plus : 0 + i ≡ i = omega arith in
      block_at-sealed_from w s 0 key is.parts i (omega (arith, count))
      ∙ ap (λ (k : ℕ). enciphered (under w s k) (block_of (get_or key i []))) zero_plus;
}

-- ---- at most one text

-- each place of a list of bytes, also past its end, is below 256
place_below : (bytes : List ℕ) → AllBytes bytes → (i : ℕ) → get_or bytes i 0 < 256
place_below bytes all i = elim (cases_lt i (length bytes)) [
  | inl within ↦ all i 0 within
  | inr past ↦ rw get_or_past (omega arith)
]

front_below : (bytes : List ℕ) → AllBytes bytes → (i : ℕ) → get_or (take 8 bytes) i 0 < 256
front_below bytes all i = elim (cases_lt i 8) [
  | inl within ↦ rw (get_or-take 8 bytes i 0 within) (place_below bytes all i)
  | inr past ↦ let gone : length (take 8 bytes) ≤ i = omega (arith, length-take 8 bytes) in rw (get_or_past (take 8 bytes) i 0 gone) (omega arith)
]

rest_bytes : (bytes : List ℕ) → AllBytes bytes → AllBytes (drop 8 bytes)
rest_bytes bytes all i d h =
    let there : 8 + i < length bytes = omega (arith, length-drop 8 bytes) in
    rw (get_or-drop 8 bytes i d) (all (8 + i) d there)

text_from : (w : List (List ℕ)) (s : Scheme) (i : ℕ) (key : List (List ℕ)) (text : List ℕ) → AllBytes text → length text ≡ 8 * length key
    → ((j : ℕ) → j < length key → block_at text j ≡ enciphered (under w s (i + j)) (block_of (get_or key j [])))
    → text ≡ sealed_from w s i key
unfolding block_of
text_from w s i [] [] all size each = refl
text_from w s i [] (byte ∷ text) all size each = absurd (omega arith)
text_from w s i (part ∷ key) text all size each =
    let eight : length (take 8 text) ≡ 8 = length-take-le 8 text (omega arith) in
    let at : i + 0 ≡ i = omega arith in
    let block : block_of (take 8 text) ≡ enciphered (under w s i) (block_of part) =
    first_block text ∙ (each 0 (omega arith) ∙ ap (λ (k : ℕ). enciphered (under w s k) (block_of part)) at) in
    let front : to_be_bytes w64 (enciphered (under w s i) (block_of part)) ≡ take 8 text =
    be_bytes_8 (take 8 text) (enciphered (under w s i) (block_of part)) eight (front_below text all) (sym block) in
    let rest : drop 8 text ≡ sealed_from w s (i + 1) key =
    text_from w s (i + 1) key (drop 8 text) (rest_bytes text all) (omega (arith, length-drop 8 text))
    (λ j h.
    let next : i + suc j ≡ i + 1 + j = omega arith in
    next_block text j ∙ (each (suc j) (omega arith) ∙ ap (λ (k : ℕ). enciphered (under w s k) (block_of (get_or key j []))) next)) in
    sym (take-append-drop 8 text) ∙ ap₂ (λ (a b : List ℕ). a ++ b) (sym front) rest

pub one_text : (w : List (List ℕ)) (s : Scheme) (key : List (List ℕ)) (text : List ℕ) → AllBytes text → Sealed w s key text → text ≡ sealed w s key
unfolding sealed
one_text w s key text all is =
    text_from w s 0 key text all (is.size ∙ ap (λ (n : ℕ). 8 * n) (sym is.parts))
    (λ j h.
    let zero_plus : j ≡ 0 + j = omega arith in
    is.each j (omega (arith, is.parts)) ∙ ap (λ (k : ℕ). enciphered (under w s k) (block_of (get_or key j []))) zero_plus)

-- ---- some key

word_byte : (n k d : ℕ) → k < 8 → get_or (to_be_bytes w64 n) k d < 2 ^ 8
word_byte n zero d h = omega arith
word_byte n (suc zero) d h = omega arith
word_byte n (suc (suc zero)) d h = omega arith
word_byte n (suc (suc (suc zero))) d h = omega arith
word_byte n (suc (suc (suc (suc zero)))) d h = omega arith
word_byte n (suc (suc (suc (suc (suc zero))))) d h = omega arith
word_byte n (suc (suc (suc (suc (suc (suc zero)))))) d h = omega arith
word_byte n (suc (suc (suc (suc (suc (suc (suc zero))))))) d h = omega arith
word_byte n (suc (suc (suc (suc (suc (suc (suc (suc k)))))))) d h = absurd (omega arith)

word_part : (n : ℕ) → IsPart (to_be_bytes w64 n)
word_part n = record { length = refl; bytes = λ k d h. word_byte n k d h }

length-opened_from : (w : List (List ℕ)) (s : Scheme) (i n : ℕ) (text : List ℕ) → length (opened_from w s i n text) ≡ n
length-opened_from w s i zero text = refl
length-opened_from w s i (suc n) text = ap suc (length-opened_from w s (i + 1) n (drop 8 text))

opened_from-parts : (w : List (List ℕ)) (s : Scheme) (i n : ℕ) (text : List ℕ) → AllByRecursion IsPart (opened_from w s i n text)
opened_from-parts w s i zero text = tt
opened_from-parts w s i (suc n) text =
    (word_part (deciphered (under w s i) (block_of (take 8 text))), opened_from-parts w s (i + 1) n (drop 8 text))

get_or-opened_from : (w : List (List ℕ)) (s : Scheme) (i n : ℕ) (text : List ℕ) (j : ℕ) → j < n
    → get_or (opened_from w s i n text) j [] ≡ to_be_bytes w64 (deciphered (under w s (i + j)) (block_at text j))
get_or-opened_from w s i zero text j h = absurd (omega arith)
get_or-opened_from w s i (suc n) text zero h =
    let at : i ≡ i + 0 = omega arith in
    ap (λ (x : ℕ). to_be_bytes w64 (deciphered (under w s i) x)) (first_block text)
    ∙ ap (λ (k : ℕ). to_be_bytes w64 (deciphered (under w s k) (block_at text 0))) at
get_or-opened_from w s i (suc n) text (suc j) h =
    let next : i + 1 + j ≡ i + suc j = omega arith in
    get_or-opened_from w s (i + 1) n (drop 8 text) j (omega arith)
    ∙ ap₂ (λ (k x : ℕ). to_be_bytes w64 (deciphered (under w s k) x)) next (next_block text j)

-- a block of a text of bytes
block_at-lt : (text : List ℕ) → AllBytes text → (j : ℕ) → block_at text j < 2 ^ 64
unfolding block_of
block_at-lt text all zero =
    let below = front_below text all in
    let small : block_of (take 8 text) < 2 ^ 64 = omega (arith, below 0, below 1, below 2, below 3, below 4, below 5, below 6, below 7) in
    rw (first_block text) at small
block_at-lt text all (suc j) =
    let small = block_at-lt (drop 8 text) (rest_bytes text all) j in
    rw (next_block text j) at small

scheme_parts-bounds : (s : Scheme) → (1 ≤ scheme_parts s) × (scheme_parts s ≤ 3)
scheme_parts-bounds Z = (omega arith, omega arith)
scheme_parts-bounds P = (omega arith, omega arith)
scheme_parts-bounds U = (omega arith, omega arith)
scheme_parts-bounds T = (omega arith, omega arith)
scheme_parts-bounds X = (omega arith, omega arith)
scheme_parts-bounds Y = (omega arith, omega arith)

pub some_key : (w : List (List ℕ)) (s : Scheme) (text : List ℕ) → AllBytes text → length text ≡ 8 * scheme_parts s → Sealed w s (opened w s text) text
unfolding opened block_of
some_key w s text all size =
    let count = length-opened_from w s 0 (scheme_parts s) text in
    let bounds = scheme_parts-bounds s in
    record {
      is_key = record { some = omega (arith, count, bounds.0); most = omega (arith, count, bounds.1); parts = opened_from-parts w s 0 (scheme_parts s) text };
      parts = count;
      size = size;
      each = λ i h.
          let x = block_at text i in
          let small : x < 2 ^ 64 = block_at-lt text all i in
          let zero_plus : 0 + i ≡ i = omega arith in
          let clear : block_of (get_or (opened_from w s 0 (scheme_parts s) text) i []) ≡ deciphered (under w s i) x =
          ap (from_be_bytes w64) (get_or-opened_from w s 0 (scheme_parts s) text i h ∙ ap (λ (k : ℕ). to_be_bytes w64 (deciphered (under w s k) x)) zero_plus)
          ∙ from_be_bytes-to_be_bytes_8 (deciphered (under w s i) x) (deciphered-lt (under w s i) x small) in
          sym (enciphered-deciphered (under w s i) x small) ∙ ap (enciphered (under w s i)) (sym clear);
    }
