-- The messages of a made script, and the lines that send them.
use Rattle.std.specs.Prelude.{ℕ, ◌+◌, ◌/◌, ◌%◌, ◌==◌, if◌then◌else◌, List, [], ◌∷◌, ◌++◌, take, drop, map, flat_map, codes}
use Rattle.std.specs.Int.{w32, to_be_bytes}
use Rattle.hsm_nibbles.specs.Characters.{hex_of_bytes}
use Rattle.hsm_types.specs.declared.types.KeyType.TheVariants.{Zpk}
use Rattle.hsm_types.specs.declared.types.Scheme.TheVariants.{Z}
use Rattle.hsm_lmk.specs.Sealing.{pair_key, wrap}
use Rattle.hsm_lmk.specs.Opened.{sealed}
use Rattle.hsm_frame.specs.Frames.{frame}
use Rattle.hsm_config.specs.Rules.{test_pairs}
use Rattle.hsm_make.specs.Numbers.{made_xs}

-- the kind of the message of x, 0 to 4
abbrev pub kind_of : ℕ → ℕ
kind_of x = x / 65536 % 5

-- the key whose check value is asked for, of one part
abbrev pub made_key : List (List ℕ)
made_key = (0x01 ∷ 0x23 ∷ 0x45 ∷ 0x67 ∷ 0x89 ∷ 0xAB ∷ 0xCD ∷ 0xEF ∷ []) ∷ []

-- its text as a key of type 001 in scheme Z under the test set
unfoldable pub sealed_key : List ℕ
sealed_key = sealed (wrap (map pair_key test_pairs) Zpk) Z made_key

-- What a host sends of each kind, without the header: an echo of x in eight hexadecimal digits, the making of a ZPK,
-- the drawing of a PIN, and the check value of the sealed key.
abbrev pub host_text : ℕ → ℕ → List ℕ
host_text kind x =
    if kind == 0 then codes "B20008" ++ hex_of_bytes (to_be_bytes w32 x)
    else if kind == 1 then codes "A00001U"
    else if kind == 2 then codes "JA12345678901204"
    else codes "BU010" ++ hex_of_bytes sealed_key

-- that message behind its header, framed
abbrev pub host_frame : ℕ → ℕ → List ℕ
host_frame kind x = frame (codes "0001" ++ host_text kind x)

-- a line of a script that brings bytes to the first host lane
abbrev pub piece_line : List ℕ → List ℕ
piece_line bytes = codes "L1 " ++ hex_of_bytes bytes ++ 10 ∷ []

-- a frame in two pieces, of which the first has so many bytes
abbrev pub frame_lines : ℕ → List ℕ → List ℕ
frame_lines first bytes = piece_line (take first bytes) ++ piece_line (drop first bytes)

-- The lines of the message of x. Kind 4 is a text of the console; a message of the other kinds is a host's, whose frame
-- is cut after 1 to 7 bytes.
unfoldable pub message_lines : ℕ → List ℕ
message_lines x = if kind_of x == 4 then codes "C GC 001 Z\n" else frame_lines (1 + x % 7) (host_frame (kind_of x) x)

-- the script that is made of a count of messages and a seed
unfoldable pub made_text : ℕ → ℕ → List ℕ
made_text count seed = flat_map message_lines (made_xs count seed)
