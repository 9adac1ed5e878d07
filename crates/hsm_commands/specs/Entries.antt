-- The parts of a message at its entry.
use Rattle.std.specs.Prelude.{List, ℕ}
use Rattle.hsm_rows.specs.declared.row.Public.{Public}
use Rattle.hsm_rows.specs.Rules.{RowRules}
use Rattle.hsm_rows.specs.Table.{Term}
use Rattle.hsm_rows.specs.Reading.{ReadText}
use Rattle.hsm_answers.specs.Read.{ReadMessage}
use Rattle.hsm_answers.specs.Values.{value_of, value, first_of}
use Rattle.hsm_commands.specs.declared.reply_fields.Entry.{Entry}
use Rattle.hsm_commands.specs.Request.{row_rules, texts_of, Meets, MeetsEach, message_of}
use Rattle.hsm_commands.specs.Demands.{Demand}
use Rattle.hsm_commands.specs.Plans.{IsAtEntry}

-- the message
abbrev pub message_at : Entry → ReadMessage
message_at e = message_of e.request.now

-- what the row asks beyond its forms
abbrev pub rules_at : Entry → RowRules
rules_at e = row_rules e.request.now

-- what was read
abbrev pub texts_at : Entry → ReadText
texts_at e = texts_of e.request.now

-- the place of its first random word
abbrev pub place_at : Entry → ℕ
place_at e = first_of e.granted.now

-- what is held is the message's, and the key and the PIN are those of the entry
abbrev pub Stands : Entry → Type 0
Stands e = IsAtEntry (message_at e) e.granted.now e.held.now e.key e.pin

-- the demands are met by the keys that are held
abbrev pub Has : Entry → List Demand → Type 0
Has e ds = Meets e.request.now e.held.now.keys ds

-- all of each list are
abbrev pub HasEach : Entry → List (List Demand) → Type 0
HasEach e ds = MeetsEach e.request.now e.held.now.keys ds

-- the value of a reply field
abbrev pub public_at : Entry → Public → List ℕ
public_at e t = value_of (message_at e) e.granted.now t

-- the same of a row's term
abbrev pub term_at : Entry → Term → List ℕ
term_at e t = value (message_at e) e.granted.now t
