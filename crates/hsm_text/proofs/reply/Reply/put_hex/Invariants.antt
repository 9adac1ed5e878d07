use Rattle.std.proofs.Common.{◌≡◌, ◌+◌, ◌*◌, ◌++◌, drop, length}
use Rattle.hsm_nibbles.specs.Characters.{hex_of_bytes}
use Rattle.hsm_text.proofs.reply.Reply.put_hex.Given as goal

pub record Invariant (l : goal.Live-loop-byte) : Type 0 where
  pub written : l.self-inside.bytes.items ++ hex_of_bytes (drop l.byte-index l.bytes) ≡ l.initial.self-inside.bytes.items ++ hex_of_bytes l.bytes
  pub size : length l.self-inside.bytes.items ≡ length l.initial.self-inside.bytes.items + 2 * l.byte-index

abbrev pub invariant-loop-byte : goal.invariant-loop-byte
invariant-loop-byte l = Invariant l
