-- Where the texts of a reading stand in the message.
use Rattle.std.specs.Prelude.{◌≡◌, ℕ, ◌+◌, ◌<◌, Bool, ◌&&◌, not, if◌then◌else◌, List, ◌++◌, length, take, drop, sum_by, slice_range}
use Rattle.hsm_rows.specs.Forms.{text_at}
use Rattle.hsm_rows.specs.Reading.{ReadText, is_end}

-- the spaces before a text: one before a present text of the console
abbrev pub spaces : Bool → List ℕ → ℕ
spaces console t = if console && not (is_end t) then 1 else 0

-- the bytes of a text with the space before it
abbrev pub room : Bool → List ℕ → ℕ
room console t = spaces console t + length t

-- the bytes of all the texts with their spaces
abbrev pub whole_room : Bool → List (List ℕ) → ℕ
whole_room console texts = sum_by (room console) texts

-- where text k begins: at the sum of the lengths before it, in a console row with one more for its own space and for that of each present text before it
abbrev pub start_of : Bool → List (List ℕ) → ℕ → ℕ
start_of console texts k = whole_room console (take k texts) + spaces console (text_at texts k)

-- each text is the slice of the message at its place, and the text of a set and the trailer are what follows the last one
pub record InPlace (console : Bool) (message : List ℕ) (r : ReadText) : Type 0 where
  pub texts : (k : ℕ) → k < length r.texts → text_at r.texts k ≡ slice_range message (start_of console r.texts k) (start_of console r.texts k + length (text_at r.texts k))
  pub trailer : (following : List ℕ) × (following ++ r.trailer ≡ drop (whole_room console r.texts) message)
