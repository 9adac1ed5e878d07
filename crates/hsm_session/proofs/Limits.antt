-- What a message asks is within the limits of a ledger, and a run goes on in a legal history.
use Rattle.std.proofs.Common.{◌≡◌, ℕ, ◌≤◌, ◌^◌, List, [], ◌∷◌, ◌++◌, length, take, Option, Some, None, Ok, refl, sym, ap, subst, ◌∙◌, arith}
use Rattle.std.specs.Prelude.{slice_get}
use Rattle.std.specs.List.{AllByRecursion}
use Rattle.std.proofs.lemmas.Bool.{cases_lt}
use Rattle.std.proofs.lemmas.List.{take-append-le}
use Rattle.std.proofs.lemmas.Option.{slice_get_within}
use Rattle.circular_buffer.proofs.Places.{slice_get-append_left}
use Rattle.hsm_auth.specs.declared.activity.Place.{Place}
use Rattle.hsm_auth.specs.declared.activity.Place.TheVariants as place
use Rattle.hsm_auth.specs.declared.entry.Entry.{Entry}
use Rattle.hsm_auth.specs.History.{CanAsk, IsLegal, IsLegalEntry}
use Rattle.hsm_rows.specs.declared.settings.Module.{Module}
use Rattle.hsm_rows.specs.Table.{RowShape, IsConsoleRow, IsHostRow, host_rows, console_rows}
use Rattle.hsm_rows.proofs.RowLemmas.{all_of}
use Rattle.hsm_answers.specs.Asks.{ask_of}
use Rattle.hsm_answers.specs.Messages.{ask_by, command_of, enabled_row, message_ask, rows_of, text_after}
use Rattle.hsm_answers.proofs.ClearAnswers.{enabled_among}
use Rattle.hsm_session.specs.declared.script.ScriptEnd.{ScriptEnd}
use Rattle.hsm_session.specs.Booking.{entry_of}
use Rattle.hsm_session.specs.Lanes.{IsLine}
use Rattle.hsm_session.specs.Runs.{IsRunOf, moment_after}
use Rattle.hsm_session.specs.Scripts.{Said, Nothing, Moment, Piece, Console, script_of}
use Rattle.hsm_session.proofs.ClearRuns.{by_place, each_message, same_entry}
use Rattle.hsm_session.proofs.ReadLaws.{script_within}

-- what a message of a row of the table asks is within the limits of a ledger
abbrev AsksWithin : RowShape → Type 0
AsksWithin row = (m : Module) (text : List ℕ) → CanAsk (ask_of m row text)

abbrev pub HostAsks : Type 0
HostAsks = (m : Module) (row : RowShape) (text : List ℕ) → IsHostRow row → CanAsk (ask_of m row text)

abbrev pub ConsoleAsks : Type 0
ConsoleAsks = (m : Module) (row : RowShape) (text : List ℕ) → IsConsoleRow row → CanAsk (ask_of m row text)

side_asks : HostAsks → ConsoleAsks → (side : Place) → AllByRecursion AsksWithin (rows_of side)
side_asks host console place.Host = all_of AsksWithin host_rows (λ row among. λ m text. host m row text among)
side_asks host console place.Console = all_of AsksWithin console_rows (λ row among. λ m text. console m row text among)

-- what each message asks is within them
can_ask : HostAsks → ConsoleAsks → (m : Module) (side : Place) (message : List ℕ) → CanAsk (message_ask m side message)
unfolding message_ask
can_ask host console m side message = go (enabled_row m side (command_of m side message)) refl
  where
    go : (found : Option RowShape) → enabled_row m side (command_of m side message) ≡ found → CanAsk (ask_by m side message found)
    go None is = omega arith
    go (Some row) is = (enabled_among AsksWithin m side (command_of m side message) row (side_asks host console side) is) m (text_after m side message)

-- the moments of lines that read
moment_most : (hosts before : ℕ) (earlier later : List Said) → before ≤ 2 ^ 40 → AllByRecursion (IsLine hosts) (earlier ++ later) → moment_after before earlier ≤ 2 ^ 40
moment_most hosts before [] later most all = most
moment_most hosts before (Nothing ∷ earlier) later most all = moment_most hosts before earlier later most all.1
moment_most hosts before (Moment moment ∷ earlier) later most all = moment_most hosts moment earlier later all.0 all.1
moment_most hosts before (Piece lane bytes ∷ earlier) later most all = moment_most hosts before earlier later most all.1
moment_most hosts before (Console text ∷ earlier) later most all = moment_most hosts before earlier later most all.1

-- a run goes on in a legal history
pub stays_legal : HostAsks → ConsoleAsks → (m : Module) (h : List Entry) (script : List ℕ) (lines : List Said) (last : List Entry) (text : List ℕ) (over : ScriptEnd)
    → script_of m.hosts script ≡ Ok lines → IsRunOf m h lines last text over → IsLegal h → IsLegal last
stays_legal host console m h script lines last text over reads told legal = λ i e there.
    by_place i (length h)
    (λ less.
    let front : take i last ≡ take i h = ap (take i) told.begins ∙ take-append-le i h told.booked (omega (arith, less)) in
    let here : slice_get h i ≡ Some e = sym (ap (λ (es : List Entry). slice_get es i) told.begins ∙ slice_get-append_left h told.booked i less) ∙ there in
    subst (λ (g : List Entry). IsLegalEntry g e) (sym front) (legal i e here))
    (λ past.
    let b = each_message m h [] lines last told.answers told.printed i past (slice_get_within last i e there) in
    let same = same_entry e (entry_of m b.side b.moment (take i last) b.message) (slice_get last i) there b.entered in
    let within = subst (AllByRecursion (IsLine m.hosts)) b.said.place (script_within m.hosts script lines reads).0 in
    let most : b.moment ≤ 2 ^ 40 =
    subst (λ (n : ℕ). n ≤ 2 ^ 40) (sym b.said.moment_there) (moment_most m.hosts 0 b.said.earlier (b.said.line ∷ b.said.later) (omega arith) within) in
    subst (IsLegalEntry (take i last)) (sym same) (record { answers = refl; moment = most; ask = can_ask host console m b.side b.message }))
    (cases_lt i (length h))
