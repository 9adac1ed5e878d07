-- A MAC in parts, and the data that each call refuses.
use Rattle.std.specs.Prelude.{ℕ, Bool, not, ◌&&◌, ◌||◌, ◌==◌, List, length}
use Rattle.hsm_mac.specs.declared.Alg.{Alg}
use Rattle.hsm_mac.specs.declared.Pad.{Pad}
use Rattle.hsm_mac.specs.Macs.{blocks_of, chained, fills_blocks, is_bare, is_length}

-- key, algorithm and chaining value
pub record State : Type 0 where
  pub key : List (List ℕ)
  pub alg : Alg
  pub chain : ℕ

-- the state after the blocks of a part
abbrev pub advanced : State → List ℕ → State
advanced s part = record {
  key = s.key;
  alg = s.alg;
  chain = chained s.alg s.key s.chain (blocks_of part);
}

-- a part is refused that is empty or no multiple of 8 bytes
abbrev pub refuses_part : List ℕ → Bool
refuses_part part = (length part == 0) || not (fills_blocks part)

-- a last part is refused that is empty, and one with padding method 3, and without padding one that is no multiple of 8 bytes
abbrev pub refuses_last : Pad → List ℕ → Bool
refuses_last pad last = (length last == 0) || (is_length pad || (is_bare pad && not (fills_blocks last)))

-- a message is refused that is empty, and without padding one that is no multiple of 8 bytes
abbrev pub refuses_whole : Pad → List ℕ → Bool
refuses_whole pad message = (length message == 0) || (is_bare pad && not (fills_blocks message))
