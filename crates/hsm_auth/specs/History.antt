-- What a history of entries says, read from the list of its entries alone.
use Rattle.std.specs.Prelude.{◌≡◌, ℕ, ◌+◌, ◌*◌, ◌%◌, ◌^◌, ◌≤◌, max, Bool, true, false, not, ◌&&◌, ◌||◌, ◌==◌, nat_lt, nat_le, if◌then◌else◌, List, [], ◌∷◌, ◌++◌, length, take, slice_get, Option, Some, None, filter, count_by, sum_by}
use Rattle.std.specs.List.{list_any}
use Rattle.circular_buffer.specs.Buffer.{keep_last}
use Rattle.hsm_auth.specs.declared.activity.Activity.{Activity}
use Rattle.hsm_auth.specs.declared.entry.Grant.{Grant}
use Rattle.hsm_auth.specs.declared.entry.Needs.{Needs}
use Rattle.hsm_auth.specs.declared.entry.Kind.{Kind}
use Rattle.hsm_auth.specs.declared.entry.Kind.TheVariants as kind
use Rattle.hsm_auth.specs.declared.entry.Note.{Note}
use Rattle.hsm_auth.specs.declared.entry.Ask.{Ask}
use Rattle.hsm_auth.specs.declared.entry.Ask.TheVariants.{Use, Authorise, Cancel, CancelAll, Look, Recent}
use Rattle.hsm_auth.specs.declared.entry.Granted.{Granted}
use Rattle.hsm_auth.specs.declared.entry.Granted.TheVariants as granted
use Rattle.hsm_auth.specs.declared.entry.Entry.{Entry}
use Rattle.hsm_auth.specs.Ledgers.{LedgerView}
use Rattle.hsm_auth.specs.Activities.{same_activity, covers}

-- the entry of the pass of this number, at the moment, with its ask and answer
abbrev pub entry : ℕ → ℕ → Ask → Granted → Entry
entry pass moment ask granted = record { pass = pass; moment = moment; ask = ask; granted = granted }

-- the greatest of the moment m and those of the history
abbrev pub now : List Entry → ℕ → ℕ
now [] m = m
now (e ∷ es) m = max e.moment (now es m)

-- whether the answer is `Authorised`
abbrev pub is_authorised : Granted → Bool
is_authorised (granted.Use first) = false
is_authorised granted.Refused = false
is_authorised granted.Authorised = true
is_authorised granted.Full = false
is_authorised (granted.Cancelled count) = false
is_authorised (granted.Seen moment place grants) = false
is_authorised (granted.Recent notes) = false

-- whether the answer is `Use`
abbrev pub is_use : Granted → Bool
is_use (granted.Use first) = true
is_use granted.Refused = false
is_use granted.Authorised = false
is_use granted.Full = false
is_use (granted.Cancelled count) = false
is_use (granted.Seen moment place grants) = false
is_use (granted.Recent notes) = false

-- the end of a grant that is given at the moment: 0 where it lasts until it is cancelled
abbrev pub end_of : ℕ → ℕ → ℕ
end_of moment minutes = if minutes == 0 then 0 else moment + 60 * minutes

-- the grant of the activity with this end
abbrev pub grant : Activity → ℕ → Grant
grant activity end = record { activity = activity; end = end }

-- the grant of an ask that was answered `Authorised` at the moment, and else none
abbrev pub given : ℕ → Ask → Granted → List Grant
given moment (Use needs words) answer = []
given moment (Authorise activity minutes) answer = if is_authorised answer then grant activity (end_of moment minutes) ∷ [] else []
given moment (Cancel activity) answer = []
given moment CancelAll answer = []
given moment Look answer = []
given moment Recent answer = []

-- whether an ask with this answer ends a grant of the activity
abbrev pub ends : Ask → Granted → Activity → Bool
ends (Use needs words) answer a = false
ends (Authorise activity minutes) answer a = is_authorised answer && same_activity activity a
ends (Cancel activity) answer a = same_activity activity a
ends CancelAll answer a = true
ends Look answer a = false
ends Recent answer a = false

-- whether some of the later entries ends a grant of the activity
abbrev pub is_ended : Activity → List Entry → Bool
is_ended a later = list_any (λ (e : Entry). ends e.ask e.granted a) later

-- by place, the grants of the entries es, which follow the entries `before`, that no later entry ends
abbrev pub unended : List Entry → List Entry → List Grant
unended before [] = []
unended before (e ∷ es) = filter (λ (g : Grant). not (is_ended g.activity es)) (given (now before e.moment) e.ask e.granted) ++ unended (before ++ e ∷ []) es

-- whether the grant has not come to its end
abbrev pub lasts : ℕ → Grant → Bool
lasts moment g = g.end == 0 || nat_lt moment g.end

-- the live grants at the moment m, or at the latest moment of the history where that is later
abbrev pub live : List Entry → ℕ → List Grant
live h m = filter (lasts (now h m)) (unended [] h)

-- the random words that an ask with this answer drew
abbrev pub words_of : Ask → Granted → ℕ
words_of (Use needs words) answer = if is_use answer then words else 0
words_of (Authorise activity minutes) answer = 0
words_of (Cancel activity) answer = 0
words_of CancelAll answer = 0
words_of Look answer = 0
words_of Recent answer = 0

-- the place of the next random word: the words of all entries that were answered `Use`, modulo 2 ^ 63
abbrev pub next : List Entry → ℕ
next h = sum_by (λ (e : Entry). words_of e.ask e.granted) h % 2 ^ 63

-- what is asked, as notes keep it
abbrev pub kind_of : Ask → Kind
kind_of (Use needs words) = kind.Use
kind_of (Authorise activity minutes) = kind.Authorise
kind_of (Cancel activity) = kind.Cancel
kind_of CancelAll = kind.CancelAll
kind_of Look = kind.Look
kind_of Recent = kind.Recent

-- neither `Refused` nor `Full`
abbrev pub is_good : Granted → Bool
is_good (granted.Use first) = true
is_good granted.Refused = false
is_good granted.Authorised = true
is_good granted.Full = false
is_good (granted.Cancelled count) = true
is_good (granted.Seen moment place grants) = true
is_good (granted.Recent notes) = true

-- the note of an entry that follows the entries `before`
abbrev pub note_of : List Entry → Entry → Note
note_of before e = record { number = length before % 2 ^ 63; moment = now before e.moment; kind = kind_of e.ask; good = is_good e.granted }

-- the notes of the entries es, which follow the entries `before`
abbrev pub notes_of : List Entry → List Entry → List Note
notes_of before [] = []
notes_of before (e ∷ es) = note_of before e ∷ notes_of (before ++ e ∷ []) es

-- the notes of the last 16 entries
abbrev pub recent : List Entry → List Note
recent h = keep_last 16 (notes_of [] h)

-- a live grant covers the need, if there is one
abbrev pub is_met : Option Activity → List Grant → Bool
is_met None grants = true
is_met (Some need) grants = list_any (λ (g : Grant). covers g.activity need) grants

-- both needs are met
abbrev pub are_met : Needs → List Grant → Bool
are_met needs grants = is_met needs.first grants && is_met needs.second grants

-- how many grants are of the activity
abbrev pub same_count : Activity → List Grant → ℕ
same_count a grants = count_by (λ (g : Grant). same_activity a g.activity) grants

-- how many grants are of other activities
abbrev pub other_count : Activity → List Grant → ℕ
other_count a grants = count_by (λ (g : Grant). not (same_activity a g.activity)) grants

-- what a ledger of this moment, random place, grants and notes answers to an ask. A grant is refused where 32 of other activities live
abbrev pub answer_from : ℕ → ℕ → List Grant → List Note → Ask → Granted
answer_from moment place grants notes (Use needs words) = if are_met needs grants then granted.Use place else granted.Refused
answer_from moment place grants notes (Authorise activity minutes) = if nat_le 32 (other_count activity grants) then granted.Full else granted.Authorised
answer_from moment place grants notes (Cancel activity) = granted.Cancelled (same_count activity grants)
answer_from moment place grants notes CancelAll = granted.Cancelled (length grants)
answer_from moment place grants notes Look = granted.Seen moment place record { items = grants }
answer_from moment place grants notes Recent = granted.Recent record { items = notes }

-- what the history answers to the ask at the moment m
abbrev pub outcome : List Entry → ℕ → Ask → Granted
outcome h m ask = answer_from (now h m) (next h) (live h m) (recent h) ask

-- some history gives this answer to the ask
abbrev pub Fits : Ask → Granted → Type 0
Fits ask answer = (h : List Entry) × (m : ℕ) × (answer ≡ outcome h m ask)

-- at most 12 words are asked for, and a grant of at most 720 minutes
abbrev pub CanAsk : Ask → Type 0
CanAsk (Use needs words) = words ≤ 12
CanAsk (Authorise activity minutes) = minutes ≤ 720
CanAsk (Cancel activity) = Unit {0}
CanAsk CancelAll = Unit {0}
CanAsk Look = Unit {0}
CanAsk Recent = Unit {0}

-- the entry is one that may follow the history
pub record IsLegalEntry (h : List Entry) (e : Entry) : Type 0 where
  pub answers : e.granted ≡ outcome h e.moment e.ask
  pub moment : e.moment ≤ 2 ^ 40
  pub ask : CanAsk e.ask

-- each entry is one that may follow the entries before it
abbrev pub IsLegal : List Entry → Type 0
IsLegal h = (i : ℕ) (e : Entry) → slice_get h i ≡ Some e → IsLegalEntry (take i h) e

-- the ledger stands for the history: its five parts are what the history says
pub record StandsFor (ledger : LedgerView) (h : List Entry) : Type 0 where
  pub moment : ledger.moment ≡ now h 0
  pub grants : ledger.grants ≡ live h 0
  pub place : ledger.place ≡ next h
  pub number : ledger.number ≡ length h % 2 ^ 63
  pub notes : ledger.notes ≡ recent h

-- the ledger stands for some history
abbrev pub IsKnown : LedgerView → Type 0
IsKnown ledger = (h : List Entry) × StandsFor ledger h
