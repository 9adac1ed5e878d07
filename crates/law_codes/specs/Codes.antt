-- What it is for an answer to bear one of its row's codes.
use Rattle.std.specs.Prelude.{◌≡◌, ℕ, true, List, ◌++◌}
use Rattle.hsm_auth.specs.declared.entry.Granted.{Granted}
use Rattle.hsm_rows.specs.declared.settings.Module.{Module}
use Rattle.hsm_rows.specs.Table.{RowShape}
use Rattle.hsm_rows.specs.Texts.{two_digits}
use Rattle.hsm_rows.specs.Codes.{codes_of, is_among}
use Rattle.hsm_auth.specs.declared.activity.Place.TheVariants.{Host}
use Rattle.hsm_answers.specs.Messages.{header_of, message_answer}

-- the answer to the host's message bears one of the row's codes: it stands behind the header and the reply code
pub record BearsCode (m : Module) (row : RowShape) (message : List ℕ) (g : Granted) : Type 0 where
  pub code : ℕ
  pub among : is_among code (codes_of row) ≡ true
  pub rest : List ℕ
  pub is : message_answer m Host message g ≡ header_of m Host message ++ (row.reply ++ (two_digits code ++ rest))
