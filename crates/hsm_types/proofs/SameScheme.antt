-- `same_scheme` is what `==` answers, and equality.
use Rattle.std.proofs.Common.{◌≡◌, true, eqb, refl, ap₂, ◌∙◌}
use denote.Enum.Bare.{sameb, same_true}
use denote.Enum.Declared.{tag_of}
use Rattle.hsm_types.specs.declared.types.Scheme.{Scheme}
use Rattle.hsm_types.specs.declared.types.Scheme.TheVariants.{Z, P, U, T, X, Y}
use Rattle.hsm_types.specs.contracts.types.Scheme.{the_type}
use Rattle.hsm_types.specs.Schemes.{place_of, same_scheme}

-- a scheme's place among the variants
tag_place : (a : Scheme) → tag_of the_type a ≡ place_of a
tag_place Z = refl
tag_place P = refl
tag_place U = refl
tag_place T = refl
tag_place X = refl
tag_place Y = refl

-- what a derived `==` answers
pub sameb_scheme : (a b : Scheme) → sameb the_type a b ≡ same_scheme a b
sameb_scheme a b = ap₂ eqb (tag_place a) (tag_place b)

-- one scheme: equal
pub same_scheme-true : (a b : Scheme) → same_scheme a b ≡ true → a ≡ b
same_scheme-true a b h = same_true the_type tt a b (sameb_scheme a b ∙ h)
