-- Schemes of key texts.
use Rattle.std.specs.Prelude.{ℕ, Bool, ◌==◌}
use Rattle.hsm_types.specs.declared.types.Scheme.{Scheme}
use Rattle.hsm_types.specs.declared.types.Scheme.TheVariants.{Z, P, U, T, X, Y}

-- the number of parts of a scheme's key
abbrev pub scheme_parts : Scheme → ℕ
scheme_parts Z = 1
scheme_parts P = 2
scheme_parts U = 2
scheme_parts T = 3
scheme_parts X = 2
scheme_parts Y = 3

-- the place of a scheme in their list, from 0
abbrev pub place_of : Scheme → ℕ
place_of Z = 0
place_of P = 1
place_of U = 2
place_of T = 3
place_of X = 4
place_of Y = 5

-- the two are one scheme
abbrev pub same_scheme : Scheme → Scheme → Bool
same_scheme a b = place_of a == place_of b
