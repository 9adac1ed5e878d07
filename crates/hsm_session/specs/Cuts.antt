-- Lanes that are open, for pieces that are cut in two.
use Rattle.std.specs.Prelude.{◌≡◌, ℕ, List, false}
use Rattle.hsm_frame.specs.Frames.{Frames, StreamEnd}
use Rattle.hsm_rows.specs.declared.settings.Module.{Module}
use Rattle.hsm_answers.specs.Messages.{least_length}
use Rattle.hsm_session.specs.Runs.{got, is_short}
use Rattle.hsm_session.specs.Scripts.{Said}

-- no frame below the least length closed the lane by these lines
pub record IsOpen (m : Module) (lines : List Said) (lane : ℕ) : Type 0 where
  pub messages : List (List ℕ)
  pub end : StreamEnd
  pub framed : Frames (least_length m) (got lane lines) messages end
  pub not_short : is_short end ≡ false
