-- The row ZW.
use Rattle.std.specs.Prelude.{[], ◌∷◌, codes}
use Rattle.hsm_rows.specs.declared.row.Form.TheVariants as form
use Rattle.hsm_rows.specs.declared.row.Secret.TheVariants as secret
use Rattle.hsm_rows.specs.declared.row.Public.TheVariants as public
use Rattle.hsm_rows.specs.declared.rules.RuleSet.TheVariants as set
use Rattle.hsm_rows.specs.Table.{RowShape, make_row, field, term}

-- ZW: make a PVV, with the PIN's length, the check value of the PVK pair, and the account
unfoldable pub row_ZW : RowShape
row_ZW =
    make_row (codes "ZW") (codes "ZX") set.Dg
    (field form.Pair 15 ∷ field form.Hex16 15 ∷ field form.Digits12 15 ∷ field form.Digits1 15 ∷ [])
    (term public.Value ∷ term public.PinLength ∷ term (public.CheckValue (secret.Opened 0)) ∷ term (public.Given 2) ∷ [])
