use Rattle.std.proofs.Common.{◌≡◌, ◌<◌, ◌^◌, ◌++◌, drop, take, length, map}
use Rattle.hsm_des.specs.Bits.{bits}
use Rattle.hsm_des.specs.Des.{round_keys, keys_from, key_bits}
use Rattle.hsm_des.specs.Tables.{left_shifts}
use Rattle.hsm_des.proofs.permutations.round_keys.Given as goal

abbrev pub invariant-loop-i : goal.invariant-loop-i
invariant-loop-i l = record {
  len : length l.keys ≡ 16;
  c : l.c < 2 ^ 28;
  d : l.d < 2 ^ 28;
  so_far : map (bits 48) (take l.i l.keys) ++ keys_from (drop l.i left_shifts) (bits 28 l.c) (bits 28 l.d) ≡ round_keys (key_bits l.fn.key);
}
