-- The table of the key types.
use Rattle.std.specs.Prelude.{ℕ, Bool, ◌==◌, List, [], ◌∷◌, Option, find, codes}
use Rattle.std.specs.List.{list_any}
use Rattle.std.specs.Str.{bytes_eq}
use Rattle.hsm_types.specs.declared.types.KeyType.{KeyType}
use Rattle.hsm_types.specs.declared.types.KeyType.TheVariants.{Zmk, Zpk, Tpk, Cvk, Tak, Zak, Bdk, Zek, Dek}
use Rattle.hsm_types.specs.declared.types.Act.{Act}
use Rattle.hsm_types.specs.declared.types.Act.TheVariants.{Generate, Import, Export}
use Rattle.hsm_types.specs.declared.types.Permit.{Permit}
use Rattle.hsm_types.specs.declared.types.Permit.TheVariants.{Y, A, N}
use Rattle.hsm_types.specs.declared.types.TypePermits.{TypePermits}
use Rattle.hsm_types.specs.declared.types.Permits.{Permits}

-- a line of the table
pub record Line : Type 0 where
  pub code : List ℕ
  pub pair : ℕ
  pub variant : ℕ
  pub lengths : List ℕ
  pub permits : TypePermits

-- the permits to generate, import and export
abbrev pub permits_of : Permit → Permit → Permit → TypePermits
permits_of g i e = record { generate = g; import = i; export = e }

-- a line of these columns
abbrev pub line : List ℕ → ℕ → ℕ → List ℕ → TypePermits → Line
line c p v ls ps = record { code = c; pair = p; variant = v; lengths = ls; permits = ps }

-- keys of one, two and three parts
abbrev pub one_to_three : List ℕ
one_to_three = 1 ∷ 2 ∷ 3 ∷ []

-- the table: code, LMK pair, variant, permitted numbers of parts, and the permits to generate, import and export
abbrev pub table_line : KeyType → Line
table_line Zmk = line (codes "000") 2 0 (2 ∷ 3 ∷ []) (permits_of A A N)
table_line Zpk = line (codes "001") 3 0 one_to_three (permits_of Y Y Y)
table_line Tpk = line (codes "002") 7 0 one_to_three (permits_of Y Y A)
table_line Cvk = line (codes "402") 7 4 (2 ∷ []) (permits_of Y A A)
table_line Tak = line (codes "003") 8 0 one_to_three (permits_of Y Y Y)
table_line Zak = line (codes "008") 13 0 one_to_three (permits_of Y Y Y)
table_line Bdk = line (codes "009") 14 0 (2 ∷ 3 ∷ []) (permits_of Y A N)
table_line Zek = line (codes "00A") 15 0 one_to_three (permits_of Y A A)
table_line Dek = line (codes "00B") 16 0 one_to_three (permits_of Y A N)

-- the code of a type
abbrev pub code_of : KeyType → List ℕ
code_of ty = (table_line ty).code

-- all types
abbrev pub types : List KeyType
types = Zmk ∷ Zpk ∷ Tpk ∷ Cvk ∷ Tak ∷ Zak ∷ Bdk ∷ Zek ∷ Dek ∷ []

-- the type whose code this is, if there is one
unfoldable pub type_with : List ℕ → Option KeyType
type_with code = find (λ (ty : KeyType). bytes_eq code (code_of ty)) types

-- the LMK pair of a type
abbrev pub pair_of : KeyType → ℕ
pair_of ty = (table_line ty).pair

-- the variant of a type
abbrev pub variant_of : KeyType → ℕ
variant_of ty = (table_line ty).variant

-- a key of the type may have so many parts
abbrev pub allows_length : KeyType → ℕ → Bool
allows_length ty parts = list_any (λ (n : ℕ). parts == n) (table_line ty).lengths

-- the permit for an act
abbrev pub permit_for : Act → TypePermits → Permit
permit_for Generate ps = ps.generate
permit_for Import ps = ps.import
permit_for Export ps = ps.export

-- the permit that the table has
abbrev pub table_permit : KeyType → Act → Permit
table_permit ty act = permit_for act (table_line ty).permits

-- the permits of one type
abbrev pub permits_at : Permits → KeyType → TypePermits
permits_at ps Zmk = ps.zmk
permits_at ps Zpk = ps.zpk
permits_at ps Tpk = ps.tpk
permits_at ps Cvk = ps.cvk
permits_at ps Tak = ps.tak
permits_at ps Zak = ps.zak
permits_at ps Bdk = ps.bdk
permits_at ps Zek = ps.zek
permits_at ps Dek = ps.dek

-- the permit that is kept for a type and an act
abbrev pub permit_of : Permits → KeyType → Act → Permit
permit_of ps ty act = permit_for act (permits_at ps ty)

-- the permits that the table has, for all types
abbrev pub table_permits : Permits
table_permits = record {
  zmk = (table_line Zmk).permits;
  zpk = (table_line Zpk).permits;
  tpk = (table_line Tpk).permits;
  cvk = (table_line Cvk).permits;
  tak = (table_line Tak).permits;
  zak = (table_line Zak).permits;
  bdk = (table_line Bdk).permits;
  zek = (table_line Zek).permits;
  dek = (table_line Dek).permits;
}
