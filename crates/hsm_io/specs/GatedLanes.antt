-- The lanes for which a bench was asked gates, kept for contracts alone.
use Rattle.std.specs.Prelude.{ℕ, List, [], ◌∷◌, ◌++◌}
use Rattle.hsm_io.specs.declared.gated.Lanes.{Lanes, Nothing, Behind'}

-- the lanes in order
abbrev pub lanes_of : Lanes → List ℕ
lanes_of Nothing = []
lanes_of (Behind' shape earlier lane) = lanes_of earlier ++ lane ∷ []
