-- What a whole message asks and is answered: its header, its command and its row.
use Rattle.std.specs.Prelude.{ℕ, ◌+◌, ◌%◌, if◌then◌else◌, List, [], ◌∷◌, ◌++◌, length, take, drop, take_while, slice_index, Option, Some, None}
use Rattle.std.specs.Str.{bytes_eq}
use Rattle.std.specs.List.{list_any}
use Rattle.hsm_auth.specs.declared.activity.Place.{Place}
use Rattle.hsm_auth.specs.declared.activity.Place.TheVariants.{Host, Console}
use Rattle.hsm_auth.specs.declared.entry.Ask.{Ask}
use Rattle.hsm_auth.specs.declared.entry.Granted.{Granted}
use Rattle.hsm_rows.specs.declared.settings.Module.{Module}
use Rattle.hsm_rows.specs.Table.{RowShape, row_with, host_rows, console_rows}
use Rattle.hsm_rows.specs.Texts.{two_digits}
use Rattle.hsm_rows.specs.Forms.{is_no_space}
use Rattle.hsm_answers.specs.Asks.{empty_ask, ask_of}
use Rattle.hsm_answers.specs.Answers.{answer, no_code}

-- the least length of a host's message: a header and a command code
abbrev pub least_length : Module → ℕ
least_length m = m.header + 2

-- the least length of a message: the console's have one byte
abbrev pub least_for : Module → Place → ℕ
least_for m Host = least_length m
least_for m Console = 1

-- the command code or word
abbrev pub command_of : Module → Place → List ℕ → List ℕ
command_of m Host message = take 2 (drop m.header message)
command_of m Console message = take_while is_no_space message

-- what follows it
abbrev pub text_after : Module → Place → List ℕ → List ℕ
text_after m Host message = drop (m.header + 2) message
text_after m Console message = drop (length (take_while is_no_space message)) message

-- the rows of a side
abbrev pub rows_of : Place → List RowShape
rows_of Host = host_rows
rows_of Console = console_rows

-- the row of a command, if it is in the table and the module doesn't disable it
unfoldable pub enabled_row : Module → Place → List ℕ → Option RowShape
enabled_row m side code = if list_any (bytes_eq code) m.disabled.items then None else row_with code (rows_of side)

-- the reply code of an unknown command
abbrev pub unknown_reply : List ℕ → List ℕ
unknown_reply code = slice_index code 0 ∷ (slice_index code 1 + 1) % 256 ∷ []

-- 68: the command is in no row of that side, or the module disables it
abbrev pub unknown_answer : Place → List ℕ → List ℕ
unknown_answer Host code = unknown_reply code ++ two_digits 68
unknown_answer Console code = no_code 68

-- the header, which only a host's message has
abbrev pub header_of : Module → Place → List ℕ → List ℕ
header_of m Host message = take m.header message
header_of m Console message = []

-- the answer by the row, if there is one
abbrev pub answer_by : Module → Place → List ℕ → Granted → Option RowShape → List ℕ
answer_by m side message g None = unknown_answer side (command_of m side message)
answer_by m side message g (Some row) = answer m row (text_after m side message) g

-- the answer to a message at the entry
unfoldable pub message_answer : Module → Place → List ℕ → Granted → List ℕ
message_answer m side message g = header_of m side message ++ answer_by m side message g (enabled_row m side (command_of m side message))

-- the ask by the row, if there is one
abbrev pub ask_by : Module → Place → List ℕ → Option RowShape → Ask
ask_by m side message None = empty_ask
ask_by m side message (Some row) = ask_of m row (text_after m side message)

-- what a message asks
unfoldable pub message_ask : Module → Place → List ℕ → Ask
message_ask m side message = ask_by m side message (enabled_row m side (command_of m side message))
