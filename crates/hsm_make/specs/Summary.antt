-- The line that sums up what a made script printed.
use Rattle.std.specs.Prelude.{ℕ, List, [], ◌∷◌, ◌++◌, codes, decimal}
use Rattle.hex.specs.Hex.{encode_lower}
use Rattle.sha2.specs.Sha256.{sha256}
use Rattle.hsm_tally.specs.Replies.{capped, ok_count, other_count}

-- the number of messages, of replies without an error and of other replies, and a digest in lower-case hexadecimal
unfoldable pub summary_line : ℕ → ℕ → ℕ → List ℕ → List ℕ
summary_line count ok other digest =
    codes "MADE " ++ decimal count ++ codes " " ++ decimal ok ++ codes " " ++ decimal other ++ codes " " ++ encode_lower digest ++ 10 ∷ []

-- The summary of a script of so many messages whose whole output this is, with its SHA-256 (FIPS 180-4).
abbrev pub summary_of : ℕ → List ℕ → List ℕ
summary_of count output = summary_line count (capped (ok_count output)) (capped (other_count output)) (sha256 output)
