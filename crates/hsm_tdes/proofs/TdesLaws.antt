-- Laws of keys and of enciphering under them.
use Rattle.std.proofs.Common.{◌≡◌, ℕ, ◌^◌, ◌<◌, ◌∙◌, List, [], ◌∷◌, ◌++◌, length, take, drop, refl, sym, ap, arith, append-nil, take_all, take-append-drop, drop-drop, length-drop}
use Rattle.hsm_des.specs.Des.{des_encrypt, des_decrypt}
use Rattle.hsm_des.proofs.NumberLaws.{des_encrypt-lt, des_decrypt-lt, des_decrypt-des_encrypt, des_encrypt-des_decrypt}
use Rattle.hsm_tdes.specs.Tdes.{enciphered, deciphered}

-- ---- parts of bytes

last_part : (bytes : List ℕ) → length bytes ≡ 8 → take 8 bytes ++ [] ≡ bytes
last_part bytes len = append-nil (take 8 bytes) ∙ take_all 8 bytes (omega arith)

pub two_parts : (bytes : List ℕ) → length bytes ≡ 16 → take 8 bytes ++ (take 8 (drop 8 bytes) ++ []) ≡ bytes
two_parts bytes len =
    ap (λ (rest : List ℕ). take 8 bytes ++ rest) (last_part (drop 8 bytes) (omega (arith, length-drop 8 bytes)))
    ∙ take-append-drop 8 bytes

pub three_parts : (bytes : List ℕ) → length bytes ≡ 24
    → take 8 bytes ++ (take 8 (drop 8 bytes) ++ (take 8 (drop 16 bytes) ++ [])) ≡ bytes
three_parts bytes len =
    ap (λ (far : List ℕ). take 8 bytes ++ (take 8 (drop 8 bytes) ++ (take 8 far ++ []))) (sym (drop-drop 8 8 bytes))
    ∙ ap (λ (rest : List ℕ). take 8 bytes ++ rest) (two_parts (drop 8 bytes) (omega (arith, length-drop 8 bytes)))
    ∙ take-append-drop 8 bytes

-- ---- enciphering and deciphering

pub enciphered-lt : (key : List (List ℕ)) (x : ℕ) → x < 2 ^ 64 → enciphered key x < 2 ^ 64
enciphered-lt [] x h = h
enciphered-lt (k ∷ []) x h = des_encrypt-lt k x
enciphered-lt (a ∷ b ∷ []) x h = des_encrypt-lt a (des_decrypt b (des_encrypt a x))
enciphered-lt (a ∷ b ∷ c ∷ more) x h = des_encrypt-lt c (des_decrypt b (des_encrypt a x))

pub deciphered-lt : (key : List (List ℕ)) (x : ℕ) → x < 2 ^ 64 → deciphered key x < 2 ^ 64
deciphered-lt [] x h = h
deciphered-lt (k ∷ []) x h = des_decrypt-lt k x
deciphered-lt (a ∷ b ∷ []) x h = des_decrypt-lt a (des_encrypt b (des_decrypt a x))
deciphered-lt (a ∷ b ∷ c ∷ more) x h = des_decrypt-lt a (des_encrypt b (des_decrypt c x))

pub deciphered-enciphered : (key : List (List ℕ)) (x : ℕ) → x < 2 ^ 64 → deciphered key (enciphered key x) ≡ x
deciphered-enciphered [] x h = refl
deciphered-enciphered (k ∷ []) x h = des_decrypt-des_encrypt k x h
deciphered-enciphered (a ∷ b ∷ []) x h =
    ap (λ (y : ℕ). des_decrypt a (des_encrypt b y)) (des_decrypt-des_encrypt a (des_decrypt b (des_encrypt a x)) (des_decrypt-lt b (des_encrypt a x)))
    ∙ ap (des_decrypt a) (des_encrypt-des_decrypt b (des_encrypt a x) (des_encrypt-lt a x))
    ∙ des_decrypt-des_encrypt a x h
deciphered-enciphered (a ∷ b ∷ c ∷ more) x h =
    ap (λ (y : ℕ). des_decrypt a (des_encrypt b y)) (des_decrypt-des_encrypt c (des_decrypt b (des_encrypt a x)) (des_decrypt-lt b (des_encrypt a x)))
    ∙ ap (des_decrypt a) (des_encrypt-des_decrypt b (des_encrypt a x) (des_encrypt-lt a x))
    ∙ des_decrypt-des_encrypt a x h

pub enciphered-deciphered : (key : List (List ℕ)) (x : ℕ) → x < 2 ^ 64 → enciphered key (deciphered key x) ≡ x
enciphered-deciphered [] x h = refl
enciphered-deciphered (k ∷ []) x h = des_encrypt-des_decrypt k x h
enciphered-deciphered (a ∷ b ∷ []) x h =
    ap (λ (y : ℕ). des_encrypt a (des_decrypt b y)) (des_encrypt-des_decrypt a (des_encrypt b (des_decrypt a x)) (des_encrypt-lt b (des_decrypt a x)))
    ∙ ap (des_encrypt a) (des_decrypt-des_encrypt b (des_decrypt a x) (des_decrypt-lt a x))
    ∙ des_encrypt-des_decrypt a x h
enciphered-deciphered (a ∷ b ∷ c ∷ more) x h =
    ap (λ (y : ℕ). des_encrypt c (des_decrypt b y)) (des_encrypt-des_decrypt a (des_encrypt b (des_decrypt c x)) (des_encrypt-lt b (des_decrypt c x)))
    ∙ ap (des_encrypt c) (des_decrypt-des_encrypt b (des_decrypt c x) (des_decrypt-lt c x))
    ∙ des_encrypt-des_decrypt c x h
