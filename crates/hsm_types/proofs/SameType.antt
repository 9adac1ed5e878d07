-- `same_type` is what `==` answers, and equality.
use Rattle.std.proofs.Common.{◌≡◌, true, eqb, refl, sym, ap₂, ◌∙◌}
use denote.Enum.Bare.{sameb, same_true, true_same}
use denote.Enum.Declared.{tag_of}
use Rattle.hsm_types.specs.declared.types.KeyType.{KeyType}
use Rattle.hsm_types.specs.declared.types.KeyType.TheVariants.{Zmk, Zpk, Tpk, Cvk, Tak, Zak, Bdk, Zek, Dek}
use Rattle.hsm_types.specs.contracts.types.KeyType.{the_type}
use Rattle.hsm_types.specs.KeyTypes.{line_of, same_type}

-- a type's place among the variants is its line
tag_line : (a : KeyType) → tag_of the_type a ≡ line_of a
tag_line Zmk = refl
tag_line Zpk = refl
tag_line Tpk = refl
tag_line Cvk = refl
tag_line Tak = refl
tag_line Zak = refl
tag_line Bdk = refl
tag_line Zek = refl
tag_line Dek = refl

-- what a derived `==` answers
pub sameb_same : (a b : KeyType) → sameb the_type a b ≡ same_type a b
sameb_same a b = ap₂ eqb (tag_line a) (tag_line b)

-- one type: equal
pub same_type-true : (a b : KeyType) → same_type a b ≡ true → a ≡ b
same_type-true a b h = same_true the_type tt a b (sameb_same a b ∙ h)

-- each type is the same as itself
pub same_type-self : (a : KeyType) → same_type a a ≡ true
same_type-self a = sym (sameb_same a a) ∙ true_same the_type a a refl
