use Rattle.std.proofs.Common.{ℕ, ◌*◌, ◌%◌, ◌^◌, ◌∙◌, ap₂, arith, bit_or}
use Rattle.hsm_des.specs.Bits.{bits}
use Rattle.hsm_des.proofs.Rounds.{wide_word}
use Rattle.hsm_des.proofs.words.wide.Goals as goal

pub returns : goal.returns
returns c =
    ap₂ (λ (r l : ℕ). bits 64 (bit_or (r * 2 ^ 32 % 2 ^ 64) l)) c.from.ensures c.from-2.ensures
    ∙ wide_word c.args.half c.rotate_right.result c.rotate_left.result c.ranges.half.fits (omega arith) (omega arith) c.rotate_right.ensures c.rotate_left.ensures
