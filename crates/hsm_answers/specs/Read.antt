-- Messages whose fields were read.
use Rattle.std.specs.Prelude.{ℕ, List, Result, Ok, Err}
use Rattle.hsm_rows.specs.declared.settings.Module.{Module}
use Rattle.hsm_rows.specs.declared.row.Code.{Code}
use Rattle.hsm_rows.specs.Rules.{RowRules}
use Rattle.hsm_rows.specs.Table.{RowShape, rules_of}
use Rattle.hsm_rows.specs.Reading.{reading, ReadText}

-- a message whose fields were read: the module, what its row asks beyond its forms, and what was read
pub record ReadMessage : Type 0 where
  pub «module» : Module
  pub rules : RowRules
  pub read : ReadText

-- the message of the row of which this was read
abbrev pub read_by : Module → RowShape → ReadText → ReadMessage
read_by m row r = record { «module» = m; rules = rules_of row; read = r }

-- the same, or the code of a text that doesn't read
abbrev pub message_in : Module → RowShape → Result ReadText Code → Result ReadMessage Code
message_in m row (Err code) = Err code
message_in m row (Ok r) = Ok (read_by m row r)

-- the message that a text is by the row; the text is what follows the command code or word
abbrev pub message_read : Module → RowShape → List ℕ → Result ReadMessage Code
message_read m row text = message_in m row (reading row text)
