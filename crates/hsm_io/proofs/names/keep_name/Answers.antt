use Rattle.std.proofs.Common.{◌∙◌}
use Rattle.hsm_io.proofs.Passing.{take_min}
use Rattle.hsm_io.proofs.names.keep_name.Goals as goal

pub returns : goal.returns
returns c = c.in-Ok.ensures.ok ∙ rw (c.clear.ensures, c.min.ensures) (take_min c.args.name.now 4096)
