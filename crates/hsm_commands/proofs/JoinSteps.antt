-- Parts of keys that are joined.
use Rattle.std.proofs.Common.{◌≡◌, ℕ, ◌+◌, ◌-◌, ◌≤◌, true, length, List, [], ◌∷◌, take, drop, map, refl, ap, ap₂, sym, ◌∙◌, arith}
use Rattle.std.specs.Prelude.{◌==◌, slice_range, slice_index_or}
use Rattle.std.proofs.lemmas.List.{take-map, drop-map}
use Rattle.std.proofs.lemmas.Grind.{common_steps}
use Rattle.hsm_parity.specs.Parity.{adjusted, adjusted_byte}
use Rattle.hsm_answers.specs.Values.{parts_of_bytes, xor_bytes, joined_bytes}
use Rattle.hsm_answers.specs.Keys.{field_text}
use Rattle.hsm_rows.specs.Reading.{ReadText}
use Rattle.hsm_nibbles.specs.Characters.{bytes_of_hex}
use Rattle.std.proofs.lemmas.Bool.Decides.{nat_tests}

-- the 8 bytes from a place on, adjusted before or after
pub adjusted_part : (bytes : List ℕ) (k : ℕ) → adjusted (slice_range bytes k (k + 8)) ≡ take 8 (drop k (adjusted bytes))
adjusted_part bytes k =
    let n : k + 8 - k ≡ 8 = omega arith in
    ap (λ (j : ℕ). map adjusted_byte (take j (drop k bytes))) n
    ∙ (sym (take-map adjusted_byte 8 (drop k bytes)) ∙ ap (take 8) (sym (drop-map adjusted_byte k bytes)))

drop_twice : (xs : List ℕ) → drop 8 (drop 8 xs) ≡ drop 16 xs
drop_twice xs = grind (arith, common_steps)

pub two_parts : (bytes : List ℕ) → adjusted (slice_range bytes 0 8) ∷ adjusted (slice_range bytes 8 16) ∷ [] ≡ parts_of_bytes 2 (adjusted bytes)
two_parts bytes = ap₂ (λ (a b : List ℕ). a ∷ b ∷ []) (adjusted_part bytes 0) (adjusted_part bytes 8)

pub three_parts : (bytes : List ℕ) → adjusted (slice_range bytes 0 8) ∷ adjusted (slice_range bytes 8 16) ∷ adjusted (slice_range bytes 16 24) ∷ [] ≡ parts_of_bytes 3 (adjusted bytes)
three_parts bytes =
    ap₂ (λ (a : List ℕ) (rest : List (List ℕ)). a ∷ rest) (adjusted_part bytes 0)
    (ap₂ (λ (a b : List ℕ). a ∷ b ∷ []) (adjusted_part bytes 8) (adjusted_part bytes 16 ∙ ap (take 8) (sym (drop_twice (adjusted bytes)))))

-- nothing changes nothing
xor_nothing : (ys : List ℕ) → xor_bytes [] ys ≡ ys
xor_nothing [] = refl
xor_nothing (y ∷ ys) = refl

nothing : (t : List ℕ) → (length t == 0) ≡ true → t ≡ []
nothing [] h = refl
nothing (c ∷ cs) h = let e : length (c ∷ cs) ≡ 0 = grind (arith, nat_tests) in absurd (omega arith)

take_whole : (xs : List ℕ) → take (length xs) xs ≡ xs
take_whole [] = refl
take_whole (x ∷ xs) = ap (λ (ys : List ℕ). x ∷ ys) (take_whole xs)

-- an absent component changes nothing
pub joined_rest : (r : ReadText) (ks t rest : List ℕ) → 1 ≤ length ks → t ≡ field_text r (slice_index_or ks 0 0) → (length t == 0) ≡ true
    → rest ≡ joined_bytes r (take (length ks - 1) (drop 1 ks)) → rest ≡ joined_bytes r ks
joined_rest r [] t rest least text empty e = absurd (omega arith)
joined_rest r (k ∷ ks) t rest least text empty e =
    let n : length (k ∷ ks) - 1 ≡ length ks = omega arith in
    let whole : take (length (k ∷ ks) - 1) ks ≡ ks = ap (λ (j : ℕ). take j ks) n ∙ take_whole ks in
    let none : field_text r k ≡ [] = sym text ∙ nothing t empty in
    e
    ∙ (ap (joined_bytes r) whole
    ∙ (sym (xor_nothing (joined_bytes r ks)) ∙ ap (λ (x : List ℕ). xor_bytes (bytes_of_hex x) (joined_bytes r ks)) (sym none)))
