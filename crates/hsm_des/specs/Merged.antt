-- The S boxes merged with P, in the wide form of a half.
use Rattle.std.specs.Prelude.{ℕ, ◌-◌, ◌*◌, Bool, false, List, [], ◌++◌, replicate, slice_index_or}
use Rattle.hsm_des.specs.Bits.{bits, number, pick}
use Rattle.hsm_des.specs.Tables.{boxes, box_permutation}
use Rattle.hsm_des.specs.Des.{box_digit}
use Rattle.hsm_des.specs.Words.{wide_places}

-- 32 zero bits in which the four bits of box i are the digit for the six bits
abbrev pub digit_alone : ℕ → List Bool → List Bool
digit_alone i six =
    replicate (4 * i) false ++ bits 4 (box_digit (slice_index_or boxes i []) six) ++ replicate (28 - 4 * i) false

-- P of the digit that box i has for the six bits v, among zeros, in wide form
unfoldable pub merged_entry : ℕ → ℕ → ℕ
merged_entry i v = number (pick wide_places (pick box_permutation (digit_alone i (bits 6 v))))
