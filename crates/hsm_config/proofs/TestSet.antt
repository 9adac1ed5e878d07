-- The LMK set of a document.
use Rattle.std.proofs.Common.{◌≡◌, List, ℕ, true, false, Option, Some, None, if◌then◌else◌, codes, refl, ap, ◌∙◌}
use Rattle.hsm_config.specs.Document.{all_hex_bytes, are_hex, elements_at, string_at}
use Rattle.hsm_config.specs.Rules.{has_pairs, is_test, pairs_of, test_pairs}
use Rattle.hsm_config.specs.declared.pairs.TheConstants.{TEST_PAIRS}
use Rattle.toml.specs.Data.{Data, Members}
use lib.Count.{ones}

pub test_set : TEST_PAIRS ≡ test_pairs
unfolding test_pairs ones
test_set = refl

pub is_test_set : (document : Members) → is_test (string_at (codes "lmk") document) ≡ true
    → Some test_pairs ≡ (if has_pairs document then Some (pairs_of document) else None)
unfolding pairs_of
is_test_set document is = rw is refl

pub is_listed_set : (document : Members) (values : List Data) (r : Option (List (List ℕ))) → is_test (string_at (codes "lmk") document) ≡ false
    → values ≡ elements_at (codes "lmk") document → r ≡ (if are_hex 20 32 values then Some (all_hex_bytes values) else None)
    → r ≡ (if has_pairs document then Some (pairs_of document) else None)
unfolding pairs_of
is_listed_set document values r other is read = rw other (read ∙ ap (λ (vs : List Data). if are_hex 20 32 vs then Some (all_hex_bytes vs) else None) is)
