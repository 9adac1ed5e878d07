use Rattle.std.proofs.Common.{◌≡◌, ◌+◌, ◌*◌, ◌++◌, take}
use Rattle.arrayvec.specs.ArrayVec.{array_vec_len}
use Rattle.hsm_nibbles.specs.Characters.{hex_of_bytes}
use Rattle.hsm_session.proofs.text.append_hex.Given as goal

abbrev pub invariant-bytes : goal.invariant-bytes
invariant-bytes g l = record {
  items : l.out.items ≡ l.initial.out.items ++ hex_of_bytes (take l.byte-index l.bytes);
  len : array_vec_len l.out ≡ array_vec_len l.initial.out + 2 * l.byte-index;
}
