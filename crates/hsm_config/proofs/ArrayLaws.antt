-- Arrays of texts of hexadecimal digits.
use Rattle.std.proofs.Common.{◌≡◌, ◌≢◌, ℕ, ◌*◌, ◌<◌, ◌≤◌, ◌&&◌, ◌==◌, Bool, true, false, List, length, take, map, get_or, Some, None, if◌then◌else◌, refl, sym, ap, ◌∙◌, arith}
use Rattle.std.specs.List.{list_all}
use Rattle.std.proofs.lemmas.Bool.Decides.{nat_tests}
use Rattle.std.proofs.lemmas.List.{length-map, take_all}
use Rattle.std.proofs.lemmas.Simd.{map-map}
use Rattle.std.proofs.lemmas.List.Folds.{list_all-map, list_all_at}
use Rattle.toml.specs.Data.{Data, as_str}
use Rattle.toml.specs.View.{view}
use Rattle.toml.specs.declared.value.Value.{Value}
use Rattle.hsm_config.specs.Document.{all_hex_bytes, are_hex, hex_bytes, is_hex}
use Rattle.hsm_config.proofs.Elements.{ReadTo}

equal : (a b : ℕ) → a ≡ b → (a == b) ≡ true
equal a b e = grind (arith, nat_tests)

different : (a b : ℕ) → a ≢ b → (a == b) ≡ false
different a b e = grind (arith, nat_tests)

and_false : (a b : Bool) → b ≡ false → (a && b) ≡ false
and_false true b e = e
and_false false b e = refl

abbrev pub is_hex_value : ℕ → Value → Bool
is_hex_value n value = is_hex (2 * n) (as_str (view value))

abbrev pub hex_value : Value → List ℕ
hex_value value = hex_bytes (as_str (view value))

-- another number of values is refused
pub other_count : (values : List Value) (count digits : ℕ) → length values ≢ count → are_hex count digits (map view values) ≡ false
other_count values count digits other = rw (length-map values view, different (length values) count other) refl

-- a value that is no text of digits refuses them all
pub one_refused : (values : List Value) (count n i : ℕ) (value : Value) → i < length values → value ≡ get_or values i value
    → is_hex_value n value ≡ false → are_hex count (2 * n) (map view values) ≡ false
one_refused values count n i value within is fails =
    let here : is_hex_value n (get_or values i value) ≡ false = ap (is_hex_value n) (sym is) ∙ fails in
    and_false (length (map view values) == count) (list_all (λ (d : Data). is_hex (2 * n) (as_str d)) (map view values))
    (list_all-map (λ (d : Data). is_hex (2 * n) (as_str d)) view values ∙ list_all_at (is_hex_value n) values i value within here)

-- all are read
pub all_read : (values : List Value) (count n i : ℕ) (all : List (List ℕ)) → length values ≡ count → count ≤ i → length all ≡ count
    → ReadTo (is_hex_value n) hex_value values i (take i all)
    → Some all ≡ (if are_hex count (2 * n) (map view values) then Some (all_hex_bytes (map view values)) else None)
all_read values count n i all same end size read =
    let all_values : take i values ≡ values = take_all i values (omega arith) in
    let all_out : take i all ≡ all = take_all i all (omega arith) in
    let passed : list_all (λ (d : Data). is_hex (2 * n) (as_str d)) (map view values) ≡ true =
    list_all-map (λ (d : Data). is_hex (2 * n) (as_str d)) view values ∙ rw all_values at read.passed in
    let value : all ≡ all_hex_bytes (map view values) =
    sym all_out ∙ read.read ∙ ap (map hex_value) all_values ∙ sym (map-map (λ (d : Data). hex_bytes (as_str d)) view values) in
    rw (length-map values view, equal (length values) count same, passed) (ap Some value)
