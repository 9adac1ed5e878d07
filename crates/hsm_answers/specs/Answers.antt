-- What a message is answered.
use Rattle.std.specs.Prelude.{ℕ, Bool, true, false, not, ◌&&◌, if◌then◌else◌, List, ◌++◌, filter, flat_map, Option, Some, None, Result, Ok, Err, codes}
use Rattle.hsm_auth.specs.declared.entry.Granted.{Granted}
use Rattle.hsm_auth.specs.declared.entry.Granted.TheVariants as granted
use Rattle.hsm_rows.specs.declared.settings.Module.{Module}
use Rattle.hsm_rows.specs.declared.row.Code.{Code}
use Rattle.hsm_rows.specs.Table.{RowShape}
use Rattle.hsm_rows.specs.Texts.{two_digits}
use Rattle.hsm_rows.specs.Reading.{is_end, is_console}
use Rattle.hsm_rows.specs.declared.rules.AskKind.{AskKind}
use Rattle.hsm_rows.specs.declared.rules.AskKind.TheVariants.{AuthoriseAsk}
use Rattle.hsm_answers.specs.Read.{ReadMessage, message_read}
use Rattle.hsm_answers.specs.Values.{values, spaced}
use Rattle.hsm_answers.specs.Checks.{check_read}
use Rattle.hsm_answers.specs.Asks.{words_hold}

-- error code, and with 00 the reply fields; then the trailer
abbrev pub host_body : RowShape → ReadMessage → Granted → Option ℕ → List ℕ
host_body row q g (Some code) = two_digits code ++ q.read.trailer
host_body row q g None = two_digits 0 ++ (flat_map (λ field. field) (values q g row.terms) ++ q.read.trailer)

-- reply code and body; a message that doesn't read has no trailer
abbrev pub host_answer : RowShape → Granted → Result ReadMessage Code → List ℕ
host_answer row g (Err code) = row.reply ++ two_digits code.0
host_answer row g (Ok q) = row.reply ++ host_body row q g (check_read q g)

-- `NO` and a code
abbrev pub no_code : ℕ → List ℕ
no_code code = codes "NO " ++ two_digits code

-- the row authorises
abbrev pub is_authorise : AskKind → Bool
is_authorise AuthoriseAsk = true
is_authorise _ = false

-- no more grants fit
abbrev pub is_full : Granted → Bool
is_full granted.Full = true
is_full _ = false

-- the field is there
abbrev pub is_present : List ℕ → Bool
is_present field = not (is_end field)

-- `OK`, with the fields each after one space
abbrev pub ok_fields : RowShape → ReadMessage → Granted → List ℕ
ok_fields row q g = codes "OK" ++ spaced (filter is_present (values q g row.terms))

-- the console's text after the checks
abbrev pub console_body : RowShape → ReadMessage → Granted → Option ℕ → List ℕ
console_body row q g (Some code) = no_code code
console_body row q g None = if is_full g then codes "NO FULL" else ok_fields row q g

-- the console's text; wrong words of officers come before the entry
abbrev pub console_answer : RowShape → Granted → Result ReadMessage Code → List ℕ
console_answer row g (Err code) = no_code code.0
console_answer row g (Ok q) =
    if is_authorise q.rules.ask && not (words_hold q) then codes "NO WORDS"
    else console_body row q g (check_read q g)

-- the answer to a message of the row, without its header; the text is what follows the command code or word
unfoldable pub answer : Module → RowShape → List ℕ → Granted → List ℕ
answer m row text g = if is_console row then console_answer row g (message_read m row text) else host_answer row g (message_read m row text)
