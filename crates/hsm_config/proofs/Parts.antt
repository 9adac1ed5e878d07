-- The parts of a document's configuration, each with its rule.
use Rattle.std.proofs.Common.{◌≡◌, ℕ, Bool, true, false, ◌∷◌, List, Option, Some, None, Ok, Err, unwrap_or, option_map, if◌then◌else◌, codes, refl, sym, ap, ◌∙◌}
use Rattle.arrayvec.specs.ArrayVec.{ArrayVec}
use Rattle.toml.specs.Data.{Data, Members}
use Rattle.hsm_config.specs.Document.{all_hex_bytes, are_hex, elements_at, number_at}
use Rattle.hsm_config.specs.Rules.{all_different, are_odd, first_broken, has_different_ports, has_host_ports, has_odd_pairs, has_officers, host_ports_of, officers_of, pairs_of}
use Rattle.hsm_config.specs.Configs.{config_of, settled}
use Rattle.hsm_config.specs.declared.configuration.ConfigFault.TheVariants.{Rule}
use Rattle.hsm_config.proofs.TestedAnswers.{none_if, some_if}

-- the first broken rule is told
pub refused : (d : Members) (n : ℕ) → first_broken d ≡ Some n → Err (Rule n) ≡ settled d (first_broken d)
refused d n is = rw is refl

pub officers_there : (d : Members) (values : List Data) (r : Option (List (List ℕ))) (x : List (List ℕ)) → values ≡ elements_at (codes "officers") d
    → r ≡ (if are_hex 2 64 values then Some (all_hex_bytes values) else None) → r ≡ Some x → (has_officers d ≡ true) × (x ≡ officers_of d)
unfolding officers_of
officers_there d values r x is read some =
    let parts = some_if (are_hex 2 64 values) (all_hex_bytes values) x r read some in
    (sym (ap (are_hex 2 64) is) ∙ parts.0, parts.1 ∙ ap all_hex_bytes is)

pub no_officers : (d : Members) (values : List Data) (r : Option (List (List ℕ))) → values ≡ elements_at (codes "officers") d
    → r ≡ (if are_hex 2 64 values then Some (all_hex_bytes values) else None) → r ≡ None → has_officers d ≡ false
no_officers d values r is read none = sym (ap (are_hex 2 64) is) ∙ none_if (are_hex 2 64 values) (all_hex_bytes values) r read none

pub odd_pairs : (d : Members) (pairs : List (List ℕ)) (b : Bool) → pairs ≡ pairs_of d → are_odd pairs ≡ b → has_odd_pairs d ≡ b
odd_pairs d pairs b is odd = sym (ap are_odd is) ∙ odd

pub ports_there : (d : Members) (r : Option (ArrayVec ℕ)) (x : ArrayVec ℕ) → option_map (λ ports. ports.items) r ≡ (if has_host_ports d then Some (host_ports_of d) else None)
    → r ≡ Some x → (has_host_ports d ≡ true) × (x.items ≡ host_ports_of d)
ports_there d r x read some =
    some_if (has_host_ports d) (host_ports_of d) x.items (option_map (λ ports. ports.items) r) read (ap (option_map (λ ports. ports.items)) some)

pub no_ports : (d : Members) (r : Option (ArrayVec ℕ)) → option_map (λ ports. ports.items) r ≡ (if has_host_ports d then Some (host_ports_of d) else None)
    → r ≡ None → has_host_ports d ≡ false
no_ports d r read none = none_if (has_host_ports d) (host_ports_of d) (option_map (λ ports. ports.items) r) read (ap (option_map (λ ports. ports.items)) none)

pub different_ports : (d : Members) (console : ℕ) (hosts : List ℕ) (b : Bool) → number_at (codes "console_port") d ≡ Some console → hosts ≡ host_ports_of d
    → all_different (console ∷ hosts) ≡ b → has_different_ports d ≡ b
different_ports d console hosts b console_is hosts_are test =
    ap (λ (o : Option ℕ). all_different (unwrap_or o 0 ∷ host_ports_of d)) console_is
    ∙ sym (ap (λ (ports : List ℕ). all_different (console ∷ ports)) hosts_are)
    ∙ test

-- the whole configuration
pub whole : (d : Members) (header : ℕ) (officers pairs : List (List ℕ)) (console : ℕ) (hosts : ArrayVec ℕ) (accept : ℕ)
    → first_broken d ≡ None → number_at (codes "header") d ≡ Some header → officers ≡ officers_of d → pairs ≡ pairs_of d
    → number_at (codes "console_port") d ≡ Some console → hosts.items ≡ host_ports_of d → number_at (codes "accept") d ≡ Some accept
    → Ok (record { header = header; officers = officers; pairs = pairs; console_port = console; host_ports = hosts; accept = accept }) ≡ settled d (first_broken d)
unfolding config_of
whole d header officers pairs console hosts accept none header_is officers_are pairs_are console_is hosts_are accept_is =
    rw (none, header_is, console_is, accept_is, ← officers_are, ← pairs_are, ← hosts_are) refl
