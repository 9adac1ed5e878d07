-- The parts of a request.
use Rattle.std.specs.Prelude.{ℕ, List, Option}
use Rattle.hsm_rows.specs.declared.settings.Module.{Module}
use Rattle.hsm_rows.specs.declared.read.Fields.{Fields}
use Rattle.hsm_rows.specs.declared.rules.Rules.{Rules}
use Rattle.hsm_rows.specs.Rules.{RowRules, rules_shape}
use Rattle.hsm_rows.specs.Reading.{ReadText, read_text_of}
use Rattle.hsm_answers.specs.Read.{ReadMessage}
use Rattle.hsm_commands.specs.declared.keys.OpenedKeys.{OpenedKeys}
use Rattle.hsm_commands.specs.declared.request.Request.{Request}
use Rattle.hsm_commands.specs.Demands.{Demand, AllMet, EachMet, IsLeft}

-- the message of these fields, by these rules of the row
abbrev pub message_with : Module → Rules → Fields → ReadMessage
message_with m rules fields = record { «module» = m; rules = rules_shape rules; read = read_text_of fields }

-- the message
abbrev pub message_of : Request → ReadMessage
message_of request = message_with request.«module».now request.rules.now request.fields.now

-- the module
abbrev pub module_of : Request → Module
module_of request = request.«module».now

-- what the row asks beyond its forms
abbrev pub row_rules : Request → RowRules
row_rules request = rules_shape request.rules.now

-- what was read
abbrev pub texts_of : Request → ReadText
texts_of request = read_text_of request.fields.now

-- the demands are met by these keys of its message
abbrev pub Meets : Request → OpenedKeys → List Demand → Type 0
Meets request keys ds = AllMet (message_of request) keys ds

-- all of each list are
abbrev pub MeetsEach : Request → OpenedKeys → List (List Demand) → Type 0
MeetsEach request keys ds = EachMet (message_of request) keys ds

-- the PIN that its data checks leave
abbrev pub Leaves : Request → Option (List ℕ) → Type 0
Leaves request pin = IsLeft (message_of request) pin
