-- When two key types are the same.
use Rattle.std.specs.Prelude.{ℕ, Bool, ◌==◌}
use Rattle.hsm_types.specs.declared.types.KeyType.{KeyType}
use Rattle.hsm_types.specs.declared.types.KeyType.TheVariants.{Zmk, Zpk, Tpk, Cvk, Tak, Zak, Bdk, Zek, Dek}

-- the line of a type in the table, from 0
abbrev pub line_of : KeyType → ℕ
line_of Zmk = 0
line_of Zpk = 1
line_of Tpk = 2
line_of Cvk = 3
line_of Tak = 4
line_of Zak = 5
line_of Bdk = 6
line_of Zek = 7
line_of Dek = 8

-- the two are one type
abbrev pub same_type : KeyType → KeyType → Bool
same_type a b = line_of a == line_of b
