-- What the lines of a made script say.
use Rattle.std.specs.Prelude.{ℕ, ◌+◌, ◌%◌, ◌==◌, if◌then◌else◌, List, [], ◌∷◌, take, drop, flat_map, codes}
use Rattle.hsm_session.specs.Scripts.{Said, Piece, Console}
use Rattle.hsm_make.specs.Numbers.{made_xs}
use Rattle.hsm_make.specs.Messages.{host_frame, kind_of}

-- a frame in two pieces for the first host lane, of which the first has so many bytes
abbrev pub frame_said : ℕ → List ℕ → List Said
frame_said first bytes = Piece 1 (take first bytes) ∷ Piece 1 (drop first bytes) ∷ []

-- what the lines of the message of x say: a text of the console, or a host's frame in two pieces
unfoldable pub message_said : ℕ → List Said
message_said x = if kind_of x == 4 then Console (codes "GC 001 Z") ∷ [] else frame_said (1 + x % 7) (host_frame (kind_of x) x)

-- what the lines of the script say that is made of a count of messages and a seed
unfoldable pub made_said : ℕ → ℕ → List Said
made_said count seed = flat_map message_said (made_xs count seed)
