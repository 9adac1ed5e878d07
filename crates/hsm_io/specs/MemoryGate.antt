-- The calls that a gate in memory keeps for contracts alone.
use Rattle.std.specs.Prelude.{List, [], ◌∷◌, ◌++◌}
use Rattle.hsm_io.specs.Gates.{GateCall, before, after}
use Rattle.hsm_io.specs.declared.mem_gate.Kept.{Kept, Nothing, Before', After'}

-- the calls in order
abbrev pub calls_of : Kept → List GateCall
calls_of Nothing = []
calls_of (Before' shape earlier lane message) = calls_of earlier ++ before lane message ∷ []
calls_of (After' shape earlier lane message) = calls_of earlier ++ after lane message ∷ []
