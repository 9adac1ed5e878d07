-- A key text's scheme and digits.
use Rattle.std.specs.Prelude.{ℕ, ◌==◌, ◌||◌, if◌then◌else◌, List, length, take, drop, codes}
use Rattle.std.specs.Str.{bytes_eq}
use Rattle.hsm_types.specs.declared.types.Scheme.{Scheme}
use Rattle.hsm_types.specs.declared.types.Scheme.TheVariants.{Z, P, U, T, X, Y}

-- the scheme that a tag or a scheme's letter names
abbrev pub scheme_named : List ℕ → Scheme
scheme_named tag =
    if bytes_eq tag (codes "U") then U
    else if bytes_eq tag (codes "T") then T
    else if bytes_eq tag (codes "X") then X
    else if bytes_eq tag (codes "Y") then Y
    else Z

-- the scheme of a key text: 16 digits without a tag are Z, 32 are P, else the tag tells
unfoldable pub scheme_of : List ℕ → Scheme
scheme_of text =
    if length text == 16 then Z
    else if length text == 32 then P
    else scheme_named (take 1 text)

-- the digits of a key text, without its tag
unfoldable pub digits_of : List ℕ → List ℕ
digits_of text = if length text == 16 || length text == 32 then text else drop 1 text
