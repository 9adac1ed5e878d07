-- What a tally keeps, and the texts that it stands for.
use Rattle.std.specs.Prelude.{◌≡◌, ℕ, List, take}
use Rattle.sha2.specs.declared.Sha256.{Sha256}
use Rattle.sha2.specs.Hashers.{Holds256}
use Rattle.hsm_tally.specs.Replies.{ok_count, other_count, capped, unfinished_line}

-- The two counts, and the first 23 bytes of the unfinished line, which tell what kind of line it is.
pub record LinesState : Type 0 where
  pub ok : ℕ
  pub other : ℕ
  pub begun : List ℕ

-- The counts and the unfinished line are those of the text.
pub record Counts (lines : LinesState) (text : List ℕ) : Type 0 where
  pub ok : lines.ok ≡ capped (ok_count text)
  pub other : lines.other ≡ capped (other_count text)
  pub begun : lines.begun ≡ take 23 (unfinished_line text)

-- what it keeps of the lines, and the hash of all bytes
pub record TallyState : Type 0 where
  pub lines : LinesState
  pub hasher : Sha256

-- The tally has the counts, the unfinished line and the hash state of the text.
pub record StandsFor (tally : TallyState) (text : List ℕ) : Type 0 where
  pub counts : Counts tally.lines text
  pub hash : Holds256 tally.hasher text
