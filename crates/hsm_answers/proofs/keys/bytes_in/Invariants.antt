use Rattle.std.proofs.Common.{◌≡◌, ◌+◌, ◌*◌, ◌++◌, ◌≤◌, length, take, true}
use Rattle.std.specs.List.{list_all}
use Rattle.std.specs.Char.{is_ascii_hexdigit}
use Rattle.hsm_nibbles.specs.Characters.{bytes_of_hex}
use Rattle.hsm_answers.proofs.keys.bytes_in.Given as goal

pub record Invariant (l : goal.Live-loop-rest) : Type 0 where
  pub size : length l.bytes ≡ 24
  pub same_bytes : bytes_of_hex l.digits ≡ take l.count l.bytes ++ bytes_of_hex l.rest
  pub room : 2 * l.count + length l.rest ≡ length l.digits
  pub short : length l.digits ≤ 48
  pub hexadecimal : list_all is_ascii_hexdigit l.rest ≡ true

abbrev pub invariant-loop-rest : goal.invariant-loop-rest
invariant-loop-rest l = Invariant l

abbrev pub decreases-loop-rest : goal.decreases-loop-rest
decreases-loop-rest l = length l.rest
