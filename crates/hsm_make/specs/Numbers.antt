-- The numbers that a made script is made of, one for each message.
use Rattle.std.specs.Prelude.{ℕ, zero, suc, ◌+◌, ◌*◌, ◌%◌, ◌^◌, List, [], ◌∷◌}

-- the number that follows x
abbrev pub next_x : ℕ → ℕ
next_x x = (x * 1103515245 + 12345) % 2 ^ 31

-- the next n numbers after x, each of which follows the one before it
abbrev pub xs_after : ℕ → ℕ → List ℕ
xs_after x zero = []
xs_after x (suc n) = next_x x ∷ xs_after (next_x x) n

-- the numbers of the messages: those after the seed modulo 2 ^ 31
abbrev pub made_xs : ℕ → ℕ → List ℕ
made_xs count seed = xs_after (seed % 2 ^ 31) count
