use Rattle.std.proofs.Common.{take, filter}
use Rattle.hsm_types.specs.Pins.{is_decimal}
use Rattle.hsm_verify.proofs.ValueLaws.{Holds}
use Rattle.hsm_verify.proofs.selection.take_decimals.Given as goal

abbrev pub invariant-loop-i : goal.invariant-loop-i
invariant-loop-i l = Holds (filter is_decimal (take l.i l.nibbles)) l.out l.count
