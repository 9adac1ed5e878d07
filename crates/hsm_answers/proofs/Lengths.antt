-- Lengths of keys and texts.
use Rattle.std.proofs.Common.{◌≡◌, ℕ, zero, suc, ◌+◌, ◌*◌, ◌∙◌, Bool, true, false, ◌||◌, List, [], ◌∷◌, length, drop, refl, ap, arith}
use Rattle.std.proofs.lemmas.Bool.Decides.{nat_tests}
use Rattle.std.specs.Prelude.{Option, Some, None, IfSome}
use Rattle.hsm_nibbles.specs.Characters.{hex_of_bytes}
use Rattle.hsm_rows.specs.declared.settings.Module.{Module}
use Rattle.hsm_rows.specs.declared.rules.Under.TheVariants.{Lmk}
use Rattle.hsm_answers.specs.declared.keys.Asked.{Asked}
use Rattle.hsm_answers.specs.Keys.{differs, scheme_fault}
use Rattle.hsm_answers.specs.Draws.{drawn_part, unlike, drawn_parts, drawn_key}
use Rattle.hsm_types.specs.declared.types.Scheme.{Scheme}
use Rattle.hsm_types.specs.Schemes.{scheme_parts}
use Rattle.hsm_lmk.specs.Opened.{opened, opened_from}

opened_parts : (w : List (List ℕ)) (s : Scheme) (i n : ℕ) (text : List ℕ) → length (opened_from w s i n text) ≡ n
opened_parts w s i zero text = refl
opened_parts w s i (suc n) text = ap suc (opened_parts w s (i + 1) n (drop 8 text))

-- a key that a text opens to has the parts of its scheme
pub opened_length : (w : List (List ℕ)) (s : Scheme) (text : List ℕ) → length (opened w s text) ≡ scheme_parts s
unfolding opened
opened_length w s text = opened_parts w s 0 (scheme_parts s) text

-- two characters a byte
pub hex_length : (bytes : List ℕ) → length (hex_of_bytes bytes) ≡ 2 * length bytes
hex_length [] = refl
hex_length (byte ∷ bytes) = let h : length (hex_of_bytes bytes) ≡ 2 * length bytes = hex_length bytes in omega arith

drawn_count : (m : Module) (n p : ℕ) (before : List ℕ) → length (drawn_parts m p n before) ≡ n
drawn_count m zero p before = refl
drawn_count m (suc n) p before = ap suc (drawn_count m n (p + 2) (unlike before (drawn_part m p)))

-- a drawn key has as many parts as were asked for
pub drawn_length : (m : Module) (p n : ℕ) → length (drawn_key m p n) ≡ n
unfolding drawn_key
drawn_length m p n = drawn_count m n p []

or-right : (a b : Bool) → (a || b) ≡ false → b ≡ false
or-right true b e = cc
or-right false b e = e

-- a key has the number of parts that a scheme asks for
asked_parts : (wanted : Option ℕ) (n : ℕ) (key : List (List ℕ)) → length key ≡ n → differs wanted n ≡ false → IfSome wanted (λ k. length key ≡ k)
asked_parts None n key is e = tt
asked_parts (Some k) n key is e = let same : n ≡ k = grind (arith, nat_tests) in is ∙ same

pub scheme_parts_asked : (a : Asked) (s : Scheme) (key : List (List ℕ)) → length key ≡ scheme_parts s → scheme_fault Lmk a s ≡ false → IfSome a.by_scheme (λ k. length key ≡ k)
scheme_parts_asked a s key is e = asked_parts a.by_scheme (scheme_parts s) key is (or-right _ (differs a.by_scheme (scheme_parts s)) e)
