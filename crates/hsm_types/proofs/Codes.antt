-- A type is told by its code.
use Rattle.std.proofs.Common.{◌≡◌, length, refl, sym, ap, ◌∙◌}
use Rattle.std.specs.Prelude.{Some}
use Rattle.hsm_types.specs.declared.types.KeyType.{KeyType}
use Rattle.hsm_types.specs.declared.types.KeyType.TheVariants.{Zmk, Zpk, Tpk, Cvk, Tak, Zak, Bdk, Zek, Dek}
use Rattle.hsm_types.specs.Table.{code_of, type_with}

-- the type with a type's code is that type
pub type_with-code_of : (ty : KeyType) → type_with (code_of ty) ≡ Some ty
unfolding type_with
type_with-code_of Zmk = refl
type_with-code_of Zpk = refl
type_with-code_of Tpk = refl
type_with-code_of Cvk = refl
type_with-code_of Tak = refl
type_with-code_of Zak = refl
type_with-code_of Bdk = refl
type_with-code_of Zek = refl
type_with-code_of Dek = refl

-- a code has three characters
pub length-code_of : (ty : KeyType) → length (code_of ty) ≡ 3
length-code_of Zmk = refl
length-code_of Zpk = refl
length-code_of Tpk = refl
length-code_of Cvk = refl
length-code_of Tak = refl
length-code_of Zak = refl
length-code_of Bdk = refl
length-code_of Zek = refl
length-code_of Dek = refl

-- types of one code are one type
pub code_of-injective : (a b : KeyType) → code_of a ≡ code_of b → a ≡ b
code_of-injective a b e = let h : Some a ≡ Some b = sym (type_with-code_of a) ∙ (ap type_with e ∙ type_with-code_of b) in cc
