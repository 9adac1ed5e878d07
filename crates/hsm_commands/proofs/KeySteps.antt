-- The key of a check.
use Rattle.std.proofs.Common.{◌≡◌, ℕ, ◌≤◌, Bool, true, false, ◌&&◌, ◌||◌, not, List, length, Option, Some, None, refl, sym, ap, ◌∙◌, subst}
use Rattle.std.specs.Prelude.{if◌then◌else◌, IfSome}
use Rattle.hsm_lmk.specs.Sealing.{wrap}
use Rattle.hsm_types.specs.declared.types.KeyType.{KeyType}
use Rattle.hsm_types.specs.Schemes.{scheme_parts}
use Rattle.hsm_text.specs.KeyTexts.{scheme_of}
use Rattle.hsm_rows.specs.declared.rules.Under.TheVariants.{Lmk}
use Rattle.hsm_rows.specs.Reading.{is_end}
use Rattle.hsm_answers.specs.Read.{ReadMessage}
use Rattle.hsm_answers.specs.declared.keys.Asked.{Asked}
use Rattle.hsm_answers.specs.Keys.{field_text, set_of, source_at, lmk_key, type_of, key_of, opened_key, key_data_fault, differs, KeyData, scheme_fault, length_fault}
use Rattle.hsm_lmk.specs.Opened.{opened, all_odd}
use Rattle.hsm_answers.proofs.Lengths.{opened_length}
use Rattle.hsm_answers.proofs.PairLengths.{key_parts}
use Rattle.hsm_commands.specs.Opened.{IsLmkKey, IsSized, field_key, given_key}

no_fault : (scheme long odd : Bool) (parity : ℕ)
    → None ≡ (if scheme then Some 26 else if long then Some 27 else if odd then None else Some parity) → long ≡ false
no_fault true long odd parity h = absurd (cc)
no_fault false true odd parity h = absurd (cc)
no_fault false false odd parity h = refl

no_difference : (allowed wraps differ : Bool) → (not allowed || (wraps || differ)) ≡ false → differ ≡ false
no_difference true true differ h = absurd (cc)
no_difference true false differ h = h
no_difference false wraps differ h = absurd (cc)

-- it has as many parts as a rule asks for
pub rule_holds : (w : List (List ℕ)) (a : Asked) (k : Option KeyData) → None ≡ key_data_fault (Some w) Lmk a k
    → differs a.by_rule (length (opened_key w k)) ≡ false
unfolding key_data_fault
rule_holds w a None h = absurd (cc)
rule_holds w a (Some k) h =
    ap (differs a.by_rule) (opened_length w k.scheme k.bytes)
    ∙ no_difference _ _ _
    (no_fault (scheme_fault Lmk a k.scheme) (length_fault a (scheme_parts k.scheme)) (all_odd (opened w k.scheme k.bytes)) a.parity.0 h)

there : (k : ℕ) (b : Bool) (key : List (List ℕ)) → b ≡ false → field_key k key ≡ (if b then None else field_key k key)
there k true key h = cc
there k false key h = refl

-- a key that was opened under the LMK pair of its type is the field's
pub lmk_holds : (q : ReadMessage) (k : ℕ) (a : Asked) (key : List (List ℕ))
    → type_of q.read (source_at k q.rules.keys) ≡ a.ty → (a.wraps && is_end (field_text q.read k)) ≡ false
    → None ≡ key_data_fault (Some (wrap (set_of q) a.ty)) Lmk a (key_of (field_text q.read k))
    → key ≡ opened_key (wrap (set_of q) a.ty) (key_of (field_text q.read k)) → (a.wraps ≡ true → 2 ≤ length key) → IfSome a.by_scheme (λ n. length key ≡ n)
    → IsLmkKey q k a (field_key k key)
unfolding lmk_key
lmk_holds q k a key source left fault opens long scheme =
    let w = wrap (set_of q) a.ty in
    let text = field_text q.read k in
    let same : key ≡ lmk_key q k = opens ∙ ap (λ (t : KeyType). opened_key (wrap (set_of q) t) (key_of text)) (sym source) in
    let parts : length key ≡ scheme_parts (scheme_of text) = ap length opens ∙ key_parts w a text (sym fault) in
    let k_of = key_of text in
    let differ : differs a.by_rule (length key) ≡ false = ap (λ (x : List (List ℕ)). differs a.by_rule (length x)) opens ∙ rule_holds w a k_of fault in
    let P : List (List ℕ) → Type 0 = λ x. (field_key k key ≡ given_key k a.wraps text x) × ((a.wraps && is_end text) ≡ false → IsSized a.wraps text a.by_scheme a.by_rule x) in
    subst P same (there k (a.wraps && is_end text) key left, λ e. record { parts = parts; wrapping = long; scheme = scheme; rule = differ })
