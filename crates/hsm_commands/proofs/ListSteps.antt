-- Keys in the clear, and lists of the ledger.
use Rattle.std.proofs.Common.{◌≡◌, ℕ, zero, suc, ◌+◌, ◌/◌, ◌%◌, List, [], ◌∷◌, ◌++◌, length, drop, map, Some, refl, sym, ap, ◌∙◌, append_assoc, add-one}
use Rattle.std.specs.Prelude.{codes, slice_get}
use Rattle.std.specs.Fmt.{decimal}
use Rattle.std.proofs.lemmas.List.{length-map}
use Rattle.hsm_nibbles.specs.Characters.{hex_character, hex_of_bytes}
use Rattle.hsm_tdes.specs.Tdes.{key_bytes}
use Rattle.hsm_answers.specs.Values.{counted, spaced}

-- a key in the clear
abbrev pub clear_text : List (List ℕ) → List ℕ
clear_text key = hex_of_bytes (key_bytes key)

-- the digits of bytes, one list after another
pub hex_append : (xs ys : List ℕ) → hex_of_bytes (xs ++ ys) ≡ hex_of_bytes xs ++ hex_of_bytes ys
hex_append [] ys = refl
hex_append (x ∷ xs) ys = ap (λ (t : List ℕ). hex_character (x / 16) ∷ hex_character (x % 16) ∷ t) (hex_append xs ys)

-- the digits of the first part, then those of the others
pub clear_part : (part : List ℕ) (parts : List (List ℕ)) → clear_text (part ∷ parts) ≡ hex_of_bytes part ++ clear_text parts
clear_part part parts = hex_append part _

part_next : (parts : List (List ℕ)) (i : ℕ) (part : List ℕ) → slice_get parts i ≡ Some part → drop i parts ≡ part ∷ drop (suc i) parts
part_next [] i part h = let z : ⊥ = cc in absurd z
part_next (x ∷ xs) zero part h = cc
part_next (x ∷ xs) (suc i) part h = part_next xs i part h

-- what is left from a part on
pub part_on : (parts : List (List ℕ)) (i : ℕ) (part : List ℕ) → slice_get parts i ≡ Some part → drop i parts ≡ part ∷ drop (i + 1) parts
part_on parts i part h = rw add-one (part_next parts i part h)

-- the number of elements and their texts, appended one after another
pub listed : {E : Type 0} (text : E → List ℕ) (xs : List E) (old numbered whole : List ℕ)
    → numbered ≡ old ++ decimal (length xs) → whole ≡ numbered ++ spaced (map text xs) → whole ≡ old ++ counted (map text xs)
listed text xs old numbered whole en ew =
    ew
    ∙ (ap (λ (x : List ℕ). x ++ spaced (map text xs)) en
    ∙ (append_assoc old (decimal (length xs)) (spaced (map text xs)) ∙ ap (λ (k : ℕ). old ++ (decimal k ++ spaced (map text xs))) (sym (length-map xs text))))

-- the parts of a note, appended one after another
pub note_glued : (old number moment kind good s a b d e f g x : List ℕ)
    → s ≡ old ++ codes " " → a ≡ s ++ number → b ≡ a ++ codes ":" → d ≡ b ++ moment → e ≡ d ++ codes ":" → f ≡ e ++ kind → g ≡ f ++ codes ":" → x ≡ g ++ good
    → x ≡ old ++ (codes " " ++ (number ++ (codes ":" ++ (moment ++ (codes ":" ++ (kind ++ (codes ":" ++ good)))))))
note_glued old number moment kind good s a b d e f g x es ea eb ed ee ef eg ex =
    let p : x ≡ (((((((old ++ codes " ") ++ number) ++ codes ":") ++ moment) ++ codes ":") ++ kind) ++ codes ":") ++ good = cc in
    p ∙ simp append_assoc
