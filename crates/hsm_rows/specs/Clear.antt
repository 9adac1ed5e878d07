-- Where a reply shows a clear key or PIN.
use Rattle.std.specs.Prelude.{◌≡◌, ℕ, ◌+◌, Bool, true, false, if◌then◌else◌, List, [], ◌∷◌, map, filter}
use Rattle.std.specs.List.{list_any}
use Rattle.hsm_rows.specs.declared.row.Public.{Public}
use Rattle.hsm_rows.specs.declared.row.Public.TheVariants.{ShowKey, ShowPin}
use Rattle.hsm_rows.specs.Table.{RowShape, Term, plain_text, term, all_rows, row_NG, row_GC, rules_of}
use Rattle.hsm_rows.specs.Rules.{pin_clear_at_host, component_at_console}
use Rattle.hsm_rows.specs.declared.rules.TypeSource.TheVariants.{Named}

-- whether a reply field shows a secret in the clear
abbrev pub shows : Public → Bool
shows (ShowKey secret) = true
shows ShowPin = true
shows _ = false

-- the same of a row's term
abbrev pub is_clear : Term → Bool
is_clear (plain_text text) = false
is_clear (term public) = shows public

-- whether a reply field of the row shows a secret in the clear
abbrev pub has_clear : RowShape → Bool
has_clear row = list_any is_clear row.terms

-- the places of the reply fields that show a secret, the first field being at place k
abbrev pub clear_from : ℕ → List Term → List ℕ
clear_from k [] = []
clear_from k (t ∷ ts) = if is_clear t then k ∷ clear_from (k + 1) ts else clear_from (k + 1) ts

-- no row but NG and GC has a reply field that shows a clear key or PIN
abbrev pub OnlyNgAndGcShow : Type 0
OnlyNgAndGcShow = filter has_clear all_rows ≡ row_NG ∷ row_GC ∷ []

-- the clear marks of each row are the places of its reply fields that show a secret
abbrev pub MarksAreShown : Type 0
MarksAreShown = map (λ (row : RowShape). clear_from 0 row.terms) all_rows ≡ map (λ (row : RowShape). (rules_of row).clear) all_rows

-- NG needs `pin.clear` at a host
abbrev pub NgNeeds : Type 0
NgNeeds = (rules_of row_NG).needs ≡ pin_clear_at_host ∷ []

-- GC needs `component` of the type of its first field at the console
abbrev pub GcNeeds : Type 0
GcNeeds = (rules_of row_GC).needs ≡ component_at_console (Named 0) ∷ []
