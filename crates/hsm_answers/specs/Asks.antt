-- What a message asks of the ledger.
use Rattle.std.specs.Prelude.{ℕ, Bool, false, ◌&&◌, if◌then◌else◌, List, [], ◌∷◌, Option, Some, None, is_some, Result, Ok, Err, codes}
use Rattle.std.specs.Str.{bytes_eq}
use Rattle.sha2.specs.Sha256.{sha256}
use Rattle.hsm_auth.specs.declared.activity.Activity.{Activity}
use Rattle.hsm_auth.specs.declared.entry.Needs.{Needs}
use Rattle.hsm_auth.specs.declared.entry.Ask.{Ask}
use Rattle.hsm_auth.specs.declared.entry.Ask.TheVariants as ask
use Rattle.hsm_auth.specs.Activities.{activity_of}
use Rattle.hsm_rows.specs.declared.settings.Module.{Module}
use Rattle.hsm_rows.specs.declared.row.Code.{Code}
use Rattle.hsm_rows.specs.Table.{RowShape}
use Rattle.hsm_rows.specs.Forms.{decimal_from}
use Rattle.hsm_rows.specs.declared.rules.AskKind.{AskKind}
use Rattle.hsm_rows.specs.declared.rules.AskKind.TheVariants.{UseAsk, LookAsk, RecentAsk, CancelAllAsk, AuthoriseAsk, CancelAsk}
use Rattle.hsm_answers.specs.Read.{ReadMessage, message_read}
use Rattle.hsm_answers.specs.Keys.{field_text}
use Rattle.hsm_answers.specs.Values.{word_count}
use Rattle.hsm_answers.specs.Checks.{early_fault, late_fault, needs_of}

-- the first two of the needs; no row has more
abbrev pub as_needs : List Activity → Needs
as_needs [] = record { first = None; second = None }
as_needs (a ∷ []) = record { first = Some a; second = None }
as_needs (a ∷ b ∷ more) = record { first = Some a; second = Some b }

-- a use without needs and words
abbrev pub empty_ask : Ask
empty_ask = ask.Use (as_needs []) 0

-- the words of the row where no late check fails
unfoldable pub asked_words : ReadMessage → ℕ
asked_words q = if is_some (late_fault q) then 0 else word_count q q.rules.words

-- whether the two words are the officers', by their digests
abbrev pub are_digests : List (List ℕ) → List ℕ → List ℕ → Bool
are_digests [] a b = false
are_digests (d ∷ []) a b = false
are_digests (d ∷ e ∷ more) a b = bytes_eq (sha256 a) d && bytes_eq (sha256 b) e

-- the words of a console `A` are its last two fields
unfoldable pub words_hold : ReadMessage → Bool
words_hold q = are_digests q.«module».officers (field_text q.read 2) (field_text q.read 3)

-- the grant of so many minutes; the activity is always there, since the field read
abbrev pub authorise : Option Activity → ℕ → Ask
authorise None minutes = empty_ask
authorise (Some a) minutes = ask.Authorise a minutes

-- the end of the equal activity's grant
abbrev pub cancel : Option Activity → Ask
cancel None = empty_ask
cancel (Some a) = ask.Cancel a

-- the row's ask
unfoldable pub row_ask : ReadMessage → AskKind → Ask
row_ask q UseAsk = ask.Use (as_needs (needs_of q)) (asked_words q)
row_ask q LookAsk = ask.Look
row_ask q RecentAsk = ask.Recent
row_ask q CancelAllAsk = ask.CancelAll
row_ask q AuthoriseAsk = if words_hold q then authorise (activity_of (field_text q.read 0)) (decimal_from 0 (field_text q.read 1)) else empty_ask
row_ask q CancelAsk = if bytes_eq (field_text q.read 0) (codes "*") then ask.CancelAll else cancel (activity_of (field_text q.read 0))

-- the empty ask where an early check fails
unfoldable pub ask_read : Result ReadMessage Code → Ask
ask_read (Err code) = empty_ask
ask_read (Ok q) = if is_some (early_fault q) then empty_ask else row_ask q q.rules.ask

-- what a message of the row asks; the text is what follows the command code or word
unfoldable pub ask_of : Module → RowShape → List ℕ → Ask
ask_of m row text = ask_read (message_read m row text)
