use Rattle.std.proofs.Common.{◌∙◌, Bool, List, ap₂}
use Rattle.hsm_des.proofs.RoundsBeside.{block_held-initial}
use Rattle.hsm_des.proofs.beside.halves_of.Goals as goal

pub returns : goal.returns
returns c = record {
  block = block_held-initial c.wide_initial.result c.args.block c.ranges.block.fits
      (ap₂ (λ (l r : List Bool). record { left = l; right = r }) c.wide_initial.ensures.left c.wide_initial.ensures.right);
  wide = (c.wide_initial.ensures.left_wide, c.wide_initial.ensures.right_wide);
}
