-- What bytes are read as.
use Rattle.std.proofs.Common.{◌≡◌, ℕ, ◌≤◌, ◌⊎◌, ◌&&◌, Bool, true, nat_le, List, length, map, unwrap_or, Option, Some, None, Result, Ok, Err, codes, refl, ap, ◌∙◌, inl, inr, arith, lit<}
use Rattle.std.specs.Prelude.{IfErr, IfOk, IsUtf8}
use Rattle.std.specs.List.{list_all}
use Rattle.std.specs.Str.{is_utf8}
use Rattle.std.proofs.lemmas.Bool.{and_parts, cases_Bool}
use Rattle.std.proofs.lemmas.Bool.Decides.{nat_tests}
use Rattle.std.proofs.lemmas.List.{length-map}
use Rattle.std.proofs.lemmas.Str.{IsUtf8-from_is_utf8, is_utf8-from_IsUtf8}
use Rattle.toml.specs.Data.{Data, Members}
use Rattle.toml.specs.Parse.{parse_document}
use Rattle.hsm_config.specs.Document.{elements_at, is_within, integer_of}
use Rattle.hsm_config.specs.Rules.{all_different, are_odd, first_broken, has_different_ports, has_host_ports, has_odd_pairs, host_ports_of}
use Rattle.hsm_config.specs.Configs.{config_in, config_of, settled, ports_of}
use Rattle.hsm_config.specs.declared.configuration.Config.{Config}
use Rattle.hsm_config.specs.declared.configuration.ConfigFault.{ConfigFault}
use Rattle.hsm_config.specs.declared.configuration.ConfigFault.TheVariants.{Memory, NotToml}
use Rattle.hsm_config.proofs.RuleLaws.{rule_holds}

-- the answer for bytes that are a document
pub read_is : (bytes : List ℕ) (d : Members) → IsUtf8 bytes → parse_document bytes ≡ Some d → config_in bytes ≡ settled d (first_broken d)
unfolding config_in
read_is bytes d utf8 parses = rw (is_utf8-from_IsUtf8 bytes utf8, parses) refl

-- the answer for bytes that are none
pub not_read : (bytes : List ℕ) → (IsUtf8 bytes → parse_document bytes ≡ None) → config_in bytes ≡ Err NotToml
unfolding config_in
not_read bytes refused =
    elim (cases_Bool (is_utf8 bytes)) [
      | inl utf8 ↦ rw (utf8, refused (IsUtf8-from_is_utf8 bytes utf8)) refl
      | inr other ↦ rw other refl
    ]

pub if_ok : (bytes : List ℕ) (r : Result Config ConfigFault) → config_in bytes ≡ r → IfOk r (λ config. config_in bytes ≡ Ok config)
if_ok bytes (Ok config) is = is
if_ok bytes (Err fault) is = tt

pub if_err : (bytes : List ℕ) (r : Result Config ConfigFault) → config_in bytes ≡ r → IfErr r (λ fault. (fault ≡ Memory) ⊎ (config_in bytes ≡ Err fault))
if_err bytes (Ok config) is = tt
if_err bytes (Err fault) is = inr is

-- a configuration that is told breaks no rule, and is what the document says
told : (d : Members) (broken : Option ℕ) (config : Config) → Ok config ≡ settled d broken → (broken ≡ None) × (config ≡ config_of d)
told d None config is = (refl, cc is)
told d (Some n) config is = cc is

pub odd_told : (d : Members) (r : Result Config ConfigFault) → r ≡ settled d (first_broken d)
    → IfOk r (λ config. are_odd config.pairs ≡ true)
unfolding config_of
odd_told d (Ok config) is =
    let parts = told d (first_broken d) config is in
    let odd : has_odd_pairs d ≡ true = rule_holds d 5 (lit< tt) parts.0 in
    ap (λ (c : Config). are_odd c.pairs) parts.1 ∙ odd
odd_told d (Err fault) is = tt

pub different_told : (d : Members) (r : Result Config ConfigFault) → r ≡ settled d (first_broken d) → IfOk r (λ config. all_different (ports_of config) ≡ true)
unfolding config_of
different_told d (Ok config) is =
    let parts = told d (first_broken d) config is in
    let different : has_different_ports d ≡ true = rule_holds d 8 (lit< tt) parts.0 in
    ap (λ (c : Config). all_different (ports_of c)) parts.1 ∙ different
different_told d (Err fault) is = tt

some_elements : (values : List Data) (test : Bool) → ((nat_le 1 (length values) && nat_le (length values) 64) && test) ≡ true
    → 1 ≤ length (map (λ port. unwrap_or (integer_of port) 0) values)
some_elements values test holds =
    let counts = and_parts (nat_le 1 (length values) && nat_le (length values) 64) test holds in
    let least = and_parts (nat_le 1 (length values)) (nat_le (length values) 64) counts.0 in
    rw (length-map values (λ (port : Data). unwrap_or (integer_of port) 0)) (grind (arith, nat_tests))

pub host_told : (d : Members) (r : Result Config ConfigFault) → r ≡ settled d (first_broken d) → IfOk r (λ config. 1 ≤ length config.host_ports.items)
unfolding config_of host_ports_of
host_told d (Ok config) is =
    let parts = told d (first_broken d) config is in
    let ports : has_host_ports d ≡ true = rule_holds d 7 (lit< tt) parts.0 in
    let values = elements_at (codes "host_ports") d in
    rw parts.1 (some_elements values (list_all (λ (port : Data). is_within 1 65535 (integer_of port)) values) ports)
host_told d (Err fault) is = tt
