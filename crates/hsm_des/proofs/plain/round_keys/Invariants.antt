use Rattle.std.proofs.Common.{◌≡◌, ◌++◌, drop, take, length}
use Rattle.hsm_des.specs.Des.{round_keys, keys_from, key_bits}
use Rattle.hsm_des.specs.Tables.{left_shifts}
use Rattle.hsm_des.proofs.plain.round_keys.Given as goal

abbrev pub invariant-loop-i : goal.invariant-loop-i
invariant-loop-i l =
    (length l.keys ≡ 16)
    × (take l.i l.keys ++ keys_from (drop l.i left_shifts) l.c l.d ≡ round_keys (key_bits l.fn.key))
