-- Arrays of ports.
use Rattle.std.proofs.Common.{◌≡◌, ℕ, ◌<◌, ◌≤◌, ◌⊎◌, ◌&&◌, Bool, true, false, nat_le, List, length, take, map, get_or, unwrap_or, Some, None, if◌then◌else◌, codes, refl, sym, ap, ◌∙◌, arith}
use Rattle.std.specs.List.{list_all}
use Rattle.std.proofs.Math.Bool.{and-false}
use Rattle.std.proofs.lemmas.Bool.Decides.{nat_tests}
use Rattle.std.proofs.lemmas.List.{length-map, take_all}
use Rattle.std.proofs.lemmas.Simd.{map-map}
use Rattle.std.proofs.lemmas.List.Folds.{list_all-map, list_all_at}
use Rattle.toml.specs.Data.{Data, Members}
use Rattle.toml.specs.View.{view}
use Rattle.toml.specs.declared.value.Value.{Value}
use Rattle.hsm_config.specs.Document.{elements_at, is_within, integer_of}
use Rattle.hsm_config.specs.Rules.{are_ports, has_host_ports, host_ports_of}
use Rattle.hsm_config.proofs.Elements.{ReadTo}

abbrev is_port : Data → Bool
is_port value = is_within 1 65535 (integer_of value)

abbrev port : Data → ℕ
port value = unwrap_or (integer_of value) 0

counted : (n : ℕ) → 1 ≤ n → n ≤ 64 → (nat_le 1 n && nat_le n 64) ≡ true
counted n least most = grind (arith, nat_tests)

miscounted : (n : ℕ) → (n ≡ 0) ⊎ (64 < n) → (nat_le 1 n && nat_le n 64) ≡ false
miscounted n other = grind (arith, nat_tests)

-- another number of values is refused
pub other_number : (values : List Value) → (length values ≡ 0) ⊎ (64 < length values) → are_ports (map view values) ≡ false
other_number values other = rw (length-map values view, miscounted (length values) other) refl

-- a value that is no port refuses them all
pub one_no_port : (values : List Value) (i : ℕ) (value : Value) → i < length values → value ≡ get_or values i value → is_port (view value) ≡ false
    → are_ports (map view values) ≡ false
one_no_port values i value within is fails =
    let here : is_port (view (get_or values i value)) ≡ false = ap (λ (v : Value). is_port (view v)) (sym is) ∙ fails in
    let n = length (map view values) in
    ap (λ (b : Bool). (nat_le 1 n && nat_le n 64) && b) (list_all-map is_port view values ∙ list_all_at (λ (v : Value). is_port (view v)) values i value within here)
    ∙ and-false (nat_le 1 n && nat_le n 64)

-- the array at the key is refused
pub refused : (document : Members) (values : List Value) → map view values ≡ elements_at (codes "host_ports") document → are_ports (map view values) ≡ false
    → None ≡ (if has_host_ports document then Some (host_ports_of document) else None)
refused document values is fails = rw (sym (ap are_ports is) ∙ fails) refl

-- all are read
pub all_ports : (document : Members) (values : List Value) (i : ℕ) (ports : List ℕ) → map view values ≡ elements_at (codes "host_ports") document
    → 1 ≤ length values → length values ≤ 64 → length values ≤ i → ReadTo (λ value. is_port (view value)) (λ value. port (view value)) values i ports
    → Some ports ≡ (if has_host_ports document then Some (host_ports_of document) else None)
unfolding host_ports_of
all_ports document values i ports is least most end read =
    let all_values : take i values ≡ values = take_all i values end in
    let passed : list_all is_port (map view values) ≡ true = list_all-map is_port view values ∙ rw all_values at read.passed in
    let value : ports ≡ map port (map view values) = read.read ∙ ap (map (λ (v : Value). port (view v))) all_values ∙ sym (map-map port view values) in
    let test : are_ports (map view values) ≡ true = rw (passed, length-map values view, counted (length values) least most) refl in
    rw (sym (ap are_ports is) ∙ test) (ap Some (value ∙ ap (map port) is))
