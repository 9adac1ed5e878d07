-- The codes of some rows.
use Rattle.std.proofs.Common.{◌≡◌, [], ◌∷◌, refl}
use Rattle.hsm_rows.specs.Table.{row_B2, row_GC, row_M8, row_NG}
use Rattle.hsm_rows.specs.Codes.{codes_from, codes_of, names}

pub of_NG : codes_of row_NG ≡ 0 ∷ 13 ∷ 14 ∷ 15 ∷ 17 ∷ []
unfolding codes_of codes_from names
of_NG = refl

pub of_B2 : codes_of row_B2 ≡ 0 ∷ 13 ∷ 15 ∷ []
unfolding codes_of codes_from names
of_B2 = refl

pub of_M8 : codes_of row_M8 ≡ 0 ∷ 1 ∷ 4 ∷ 10 ∷ 13 ∷ 15 ∷ 26 ∷ 27 ∷ 80 ∷ []
unfolding codes_of codes_from names
of_M8 = refl

pub of_GC : codes_of row_GC ≡ []
unfolding codes_of codes_from names
of_GC = refl
