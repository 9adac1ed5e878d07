-- What the texts of an authorisation are, where its row read them.
use Rattle.std.specs.Prelude.{◌≡◌, true}
use Rattle.hsm_rows.specs.Forms.{text_at, is_activity, is_minutes, is_word}
use Rattle.hsm_rows.specs.Reading.{ReadText}

-- `A`: an activity, minutes, and two words
pub record AuthorisationStands (r : ReadText) : Type 0 where
  pub activity : is_activity (text_at r.texts 0) ≡ true
  pub minutes : is_minutes (text_at r.texts 1) ≡ true
  pub first : is_word (text_at r.texts 2) ≡ true
  pub second : is_word (text_at r.texts 3) ≡ true
