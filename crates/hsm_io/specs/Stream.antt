-- What a source tells.
use Rattle.std.specs.Prelude.{◌≡◌, ℕ, List, [], ◌++◌}

-- the bytes read so far and the bytes left
pub record Stream : Type 0 where
  pub was_read : List ℕ
  pub left : List ℕ

-- a stream of which nothing was read
abbrev pub unread : List ℕ → Stream
unread bytes = record { was_read = []; left = bytes }

-- These bytes passed from the front of what was left to the end of what was read.
pub record Passes (before after : Stream) (bytes : List ℕ) : Type 0 where
  pub left : before.left ≡ bytes ++ after.left
  pub was_read : after.was_read ≡ before.was_read ++ bytes
