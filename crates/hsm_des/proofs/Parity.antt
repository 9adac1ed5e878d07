-- The last bit of each byte of a key takes no part in its round keys.
use Rattle.std.proofs.Common.{◌≡◌, ℕ, ◌+◌, ◌*◌, ◌/◌, ◌^◌, ◌<◌, Bool, List, [], ◌∷◌, ◌++◌, length, map, get_or, take, drop, refl, sym, ap, ◌∙◌, arith}
use Rattle.std.specs.Int.{w64, from_be_bytes}
use Rattle.std.specs.Prelude.{All}
use Rattle.std.proofs.lemmas.List.Elements.{All-get_or}
use Rattle.hsm_des.specs.Bits.{bits, pick}
use Rattle.hsm_des.specs.Tables.{key_choice, left_shifts}
use Rattle.hsm_des.specs.Des.{key_bits, keys_from, round_keys}
use Rattle.hsm_des.proofs.WordLemmas.{bits-append, bits_cat}

-- seven bits and one
abbrev byte_of : ℕ → ℕ → List Bool
byte_of seven last = bits 7 seven ++ bits 1 last

abbrev eight_bytes : (a b c d e f g h : List Bool) → List Bool
eight_bytes a b c d e f g h = ((((((a ++ b) ++ c) ++ d) ++ e) ++ f) ++ g) ++ h

byte_is : (a : ℕ) → bits 8 a ≡ byte_of (a / 2) a
byte_is a = bits-append 7 1 a ∙ ap (λ (n : ℕ). byte_of n a) (omega arith)

even_byte_is : (a : ℕ) → bits 8 (a / 2 * 2) ≡ byte_of (a / 2) (a / 2 * 2)
even_byte_is a = byte_is (a / 2 * 2) ∙ ap (λ (n : ℕ). byte_of n (a / 2 * 2)) (omega arith)

number_is : (a b c d e f g h : ℕ)
    → from_be_bytes w64 (a ∷ b ∷ c ∷ d ∷ e ∷ f ∷ g ∷ h ∷ [])
    ≡ ((((((a * 2 ^ 8 + b) * 2 ^ 8 + c) * 2 ^ 8 + d) * 2 ^ 8 + e) * 2 ^ 8 + f) * 2 ^ 8 + g) * 2 ^ 8 + h
number_is a b c d e f g h = omega arith

bytes_are : (a b c d e f g h : ℕ) → b < 2 ^ 8 → c < 2 ^ 8 → d < 2 ^ 8 → e < 2 ^ 8 → f < 2 ^ 8 → g < 2 ^ 8 → h < 2 ^ 8
    → key_bits (a ∷ b ∷ c ∷ d ∷ e ∷ f ∷ g ∷ h ∷ [])
    ≡ eight_bytes (bits 8 a) (bits 8 b) (bits 8 c) (bits 8 d) (bits 8 e) (bits 8 f) (bits 8 g) (bits 8 h)
unfolding key_bits
bytes_are a b c d e f g h bs cs ds es fs gs hs =
    let n2 = a * 2 ^ 8 + b in
    let n3 = n2 * 2 ^ 8 + c in
    let n4 = n3 * 2 ^ 8 + d in
    let n5 = n4 * 2 ^ 8 + e in
    let n6 = n5 * 2 ^ 8 + f in
    let n7 = n6 * 2 ^ 8 + g in
    let then = λ (x : List Bool) (m : ℕ). x ++ bits 8 m in
    ap (bits 64) (number_is a b c d e f g h)
    ∙ bits_cat 56 8 n7 h hs
    ∙ ap (λ (x : List Bool). then x h)
    (bits_cat 48 8 n6 g gs
    ∙ ap (λ (x : List Bool). then x g)
    (bits_cat 40 8 n5 f fs
    ∙ ap (λ (x : List Bool). then x f)
    (bits_cat 32 8 n4 e es
    ∙ ap (λ (x : List Bool). then x e)
    (bits_cat 24 8 n3 d ds
    ∙ ap (λ (x : List Bool). then x d)
    (bits_cat 16 8 n2 c cs ∙ ap (λ (x : List Bool). then x c) (bits_cat 8 8 a b bs))))))

-- PC-1 lists no last bit of a byte
chosen : (a b c d e f g h k l m n o p q r s t u v w x y z : ℕ)
    → pick key_choice (eight_bytes (byte_of a k) (byte_of b l) (byte_of c m) (byte_of d n) (byte_of e o) (byte_of f p) (byte_of g q) (byte_of h r))
    ≡ pick key_choice (eight_bytes (byte_of a s) (byte_of b t) (byte_of c u) (byte_of d v) (byte_of e w) (byte_of f x) (byte_of g y) (byte_of h z))
unfolding bits key_choice
chosen a b c d e f g h k l m n o p q r s t u v w x y z = refl

even : (a : ℕ) → a < 2 ^ 8 → a / 2 * 2 < 2 ^ 8
even a h = omega arith

choice_of_even_bytes : (a b c d e f g h : ℕ) → b < 2 ^ 8 → c < 2 ^ 8 → d < 2 ^ 8 → e < 2 ^ 8 → f < 2 ^ 8 → g < 2 ^ 8 → h < 2 ^ 8
    → pick key_choice (key_bits (map (λ byte. byte / 2 * 2) (a ∷ b ∷ c ∷ d ∷ e ∷ f ∷ g ∷ h ∷ [])))
    ≡ pick key_choice (key_bits (a ∷ b ∷ c ∷ d ∷ e ∷ f ∷ g ∷ h ∷ []))
choice_of_even_bytes a b c d e f g h bs cs ds es fs gs hs =
    ap (pick key_choice)
    (bytes_are _ _ _ _ _ _ _ _ (even b bs) (even c cs) (even d ds) (even e es) (even f fs) (even g gs) (even h hs)
    ∙ eight (even_byte_is a) (even_byte_is b) (even_byte_is c) (even_byte_is d) (even_byte_is e) (even_byte_is f) (even_byte_is g) (even_byte_is h))
    ∙ chosen (a / 2) (b / 2) (c / 2) (d / 2) (e / 2) (f / 2) (g / 2) (h / 2) _ _ _ _ _ _ _ _ a b c d e f g h
    ∙ ap (pick key_choice)
    (sym
    (bytes_are a b c d e f g h bs cs ds es fs gs hs
    ∙ eight (byte_is a) (byte_is b) (byte_is c) (byte_is d) (byte_is e) (byte_is f) (byte_is g) (byte_is h)))
  where
    eight : {a b c d e f g h k l m n o p q r : List Bool} → a ≡ k → b ≡ l → c ≡ m → d ≡ n → e ≡ o → f ≡ p → g ≡ q → h ≡ r
        → eight_bytes a b c d e f g h ≡ eight_bytes k l m n o p q r
    eight a b c d e f g h = λ i. eight_bytes (a i) (b i) (c i) (d i) (e i) (f i) (g i) (h i)

pub round_keys-even_bytes : (key : List ℕ) → length key ≡ 8 → All (λ byte. byte < 2 ^ 8) key
    → round_keys (key_bits (map (λ byte. byte / 2 * 2) key)) ≡ round_keys (key_bits key)
unfolding round_keys
round_keys-even_bytes (a ∷ b ∷ c ∷ d ∷ e ∷ f ∷ g ∷ h ∷ []) len all =
    let key = a ∷ b ∷ c ∷ d ∷ e ∷ f ∷ g ∷ h ∷ [] in
    let fits : (i : ℕ) → i < 8 → get_or key i 0 < 2 ^ 8 = λ i lt. All-get_or (λ byte. byte < 2 ^ 8) key i 0 lt all in
    ap (λ (x : List Bool). keys_from left_shifts (take 28 x) (drop 28 x))
    (choice_of_even_bytes a b c d e f g h
    (fits 1 (omega arith)) (fits 2 (omega arith)) (fits 3 (omega arith)) (fits 4 (omega arith))
    (fits 5 (omega arith)) (fits 6 (omega arith)) (fits 7 (omega arith)))
round_keys-even_bytes [] len all = absurd (omega arith)
round_keys-even_bytes (a ∷ []) len all = absurd (omega arith)
round_keys-even_bytes (a ∷ b ∷ []) len all = absurd (omega arith)
round_keys-even_bytes (a ∷ b ∷ c ∷ []) len all = absurd (omega arith)
round_keys-even_bytes (a ∷ b ∷ c ∷ d ∷ []) len all = absurd (omega arith)
round_keys-even_bytes (a ∷ b ∷ c ∷ d ∷ e ∷ []) len all = absurd (omega arith)
round_keys-even_bytes (a ∷ b ∷ c ∷ d ∷ e ∷ f ∷ []) len all = absurd (omega arith)
round_keys-even_bytes (a ∷ b ∷ c ∷ d ∷ e ∷ f ∷ g ∷ []) len all = absurd (omega arith)
round_keys-even_bytes (a ∷ b ∷ c ∷ d ∷ e ∷ f ∷ g ∷ h ∷ i ∷ more) len all = absurd (omega arith)
