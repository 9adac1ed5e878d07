-- The rule of the desk, and what each of its steps tells.
-- Word 0 is `served`, word 1 is `tickets`. The one slot holds the ledger.
use Rattle.std.specs.Prelude.{◌≡◌, ◌≢◌, ℕ, ◌+◌, ◌^◌, ◌≤◌, if◌then◌else◌, nat_le, ◌==◌, List, [], ◌∷◌, ◌++◌, length, Option, Some, None}
use mathlib.Core.Option.{some}
use mathlib.Core.Option as maybe
use lib.ListN.{get_elem?}
use Rattle.atomic_table.specs.Table.{State, Me}
use Rattle.hsm_auth.specs.declared.entry.Entry.{Entry}
use Rattle.hsm_auth.specs.History.{entry, IsLegal, StandsFor}
use Rattle.hsm_desk.specs.declared.view.Known.{Known}
use Rattle.hsm_desk.specs.declared.view.View.{View}
use Rattle.hsm_desk.specs.declared.view.InSlot.{InSlot}
use Rattle.hsm_desk.specs.declared.view.Stage.{Stage}
use Rattle.hsm_desk.specs.declared.view.Stage.TheVariants.{Idle, Waiting, Turn, Met}
use Rattle.hsm_desk.specs.Totals.{total, one_if, between}
use Rattle.hsm_desk.specs.Kin.{spanning, part, IsKin, IsCons, first_pair, Owns, Grows, IsPartOf, kept_kin, new_kin}

abbrev pub knowing : List Entry → List (ℕ × ℕ) → Known
knowing seen kin = record { seen = seen; kin = kin }

abbrev pub viewed : Known → Stage → View
viewed known stage = record { known = known; stage = stage }

-- 1 where the seat has a ticket; where it has just this one; where it has the turn
abbrev pub waits_at : Stage → ℕ
waits_at Idle = 0
waits_at (Waiting t) = 1
waits_at (Turn t) = 1
waits_at (Met a b) = 0

abbrev pub ticket_at : ℕ → Stage → ℕ
ticket_at x Idle = 0
ticket_at x (Waiting t) = one_if (t == x)
ticket_at x (Turn t) = one_if (t == x)
ticket_at x (Met a b) = 0

abbrev pub turn_at : Stage → ℕ
turn_at Idle = 0
turn_at (Waiting t) = 0
turn_at (Turn t) = 1
turn_at (Met a b) = 0

abbrev pub waits : View → ℕ
waits v = waits_at v.stage

abbrev pub has_ticket : ℕ → View → ℕ
has_ticket x v = ticket_at x v.stage

abbrev pub has_turn : View → ℕ
has_turn v = turn_at v.stage

-- how many pairs of the seat's kin span the number
abbrev pub pairs_spanning : ℕ → View → ℕ
pairs_spanning x v = total (spanning x) v.known.kin

abbrev pub weight : View → ℕ
weight v = total part v.known.kin

abbrev pub AtStage : List Entry → Known → Stage → Type 0
AtStage log known Idle = Unit {0}
AtStage log known (Waiting t) = IsCons known.kin
AtStage log known (Turn t) = (t ≡ length log) × (known.seen ≡ log) × IsCons known.kin
AtStage log known (Met a b) = IsPartOf log a × IsPartOf log b × (known.kin ≡ a.kin ++ b.kin)

pub record Stands (log : List Entry) (v : View) : Type 0 where
  pub fits : IsPartOf log v.known
  pub pairs : IsKin v.known.kin
  pub stage : AtStage log v.known v.stage

pub record Kept (words : List ℕ) (homes : List (maybe.Option (Option InSlot))) (views : List View) (log : List Entry) : Type 0 where
  pub words_are : words ≡ length log ∷ (length log + total waits views) ∷ []
  pub small : length log ≤ 2 ^ 62
  pub legal : IsLegal log
  pub tickets : (t : ℕ) → total (has_ticket t) views ≡ between (length log) (length log + total waits views) t
  pub slot : total has_turn views ≡ 0 → (x : InSlot) × (homes ≡ some (Some x) ∷ []) × StandsFor x.ledger.value log
  pub covered : (x : ℕ) → total (pairs_spanning x) views ≡ 1
  pub weighed : total weight views ≡ 2 ^ 62
  pub each : (id : ℕ) (v : View) → get_elem? views id ≡ some v → Stands log v

abbrev pub Ruled : State (Option InSlot) View → Type 0
Ruled s = (log : List Entry) × Kept s.words s.homes s.views log

abbrev pub first_view : View
first_view = viewed (knowing [] ((0, 1) ∷ [])) Idle

abbrev pub Seated : Type 0
Seated = Me (Option InSlot) View

-- a ticket was drawn
abbrev pub Draws : Seated → ℕ → Seated → Type 0
Draws m n m' = m' ≡ (viewed m.0.known (Waiting n), m.1)

abbrev pub ticket_of : Stage → ℕ
ticket_of Idle = 0
ticket_of (Waiting t) = t
ticket_of (Turn t) = t
ticket_of (Met a b) = 0

-- the turn came: the whole history was seen, and the ledger was taken
pub record Takes (m m' : Seated) : Type 0 where
  pub stage : m'.0.stage ≡ Turn (ticket_of m.0.stage)
  pub kin : m'.0.known.kin ≡ m.0.known.kin
  pub grows : Grows m.0.known.kin m.0.known.seen m'.0.known.seen
  pub place : length m'.0.known.seen ≡ ticket_of m.0.stage
  pub legal : IsLegal m'.0.known.seen
  pub slot : (x : InSlot) × (m'.1 ≡ (0, Some x) ∷ []) × StandsFor x.ledger.value m'.0.known.seen

-- the turn came, and what lay in the slot was taken out
pub record Has (ticket : ℕ) (m m' : Seated) (x : InSlot) : Type 0 where
  pub stage : m'.0.stage ≡ Turn ticket
  pub kin : m'.0.known.kin ≡ m.0.known.kin
  pub grows : Grows m.0.known.kin m.0.known.seen m'.0.known.seen
  pub place : length m'.0.known.seen ≡ ticket
  pub legal : IsLegal m'.0.known.seen
  pub slot : m'.1 ≡ (0, None) ∷ []
  pub ledger : StandsFor x.ledger.value m'.0.known.seen

abbrev pub Awaits : Seated → ℕ → Seated → Type 0
Awaits m n m' = (n ≡ ticket_of m.0.stage → Takes m m') × (n ≢ ticket_of m.0.stage → m' ≡ m)

abbrev pub entry_by : List (ℕ × ℕ) → InSlot → Entry
entry_by kin x = entry (first_pair kin).0 x.moment x.ask.value x.granted.value

-- what the seat knows once the entry of what lies in the slot stands last
abbrev pub seen_with : Seated → InSlot → List Entry
seen_with m x = m.0.known.seen ++ entry_by m.0.known.kin x ∷ []

-- The entry of what lies in the slot was made, at the place n.
pub record Entered (x : InSlot) (m : Seated) (n : ℕ) (m' : Seated) : Type 0 where
  pub place : n ≡ length m.0.known.seen
  pub seat : m' ≡ (viewed (knowing (seen_with m x) m.0.known.kin) Idle, [])
  pub own : Owns (seen_with m x) m.0.known.kin

-- what an entry of the seat does, whatever it put into the slot
abbrev pub Enters : Seated → ℕ → Seated → Type 0
Enters m n m' = (x : InSlot) → m.1 ≡ (0, Some x) ∷ [] → Entered x m n m'

abbrev pub GrowsBoth : Stage → List Entry → Type 0
GrowsBoth Idle seen = Unit {0}
GrowsBoth (Waiting t) seen = Unit {0}
GrowsBoth (Turn t) seen = Unit {0}
GrowsBoth (Met a b) seen = Grows a.kin a.seen seen × Grows b.kin b.seen seen

-- after a join the whole history was seen
pub record Learns (m m' : Seated) : Type 0 where
  pub slots : m'.1 ≡ m.1
  pub stage : m'.0.stage ≡ Idle
  pub kin : m'.0.known.kin ≡ m.0.known.kin
  pub legal : IsLegal m'.0.known.seen
  pub own : Owns m'.0.known.seen m'.0.known.kin
  pub both : GrowsBoth m.0.stage m'.0.known.seen
  pub few : length m'.0.known.seen ≤ 2 ^ 62

-- a split, and a join
abbrev pub left : View → View
left v = viewed (knowing v.known.seen (kept_kin v.known.kin)) v.stage

abbrev pub right : View → View
right v = viewed (knowing v.known.seen (new_kin v.known.kin)) Idle

abbrev pub longer : List Entry → List Entry → List Entry
longer a b = if nat_le (length a) (length b) then b else a

abbrev pub met : View → View → View
met v w = viewed (knowing (longer v.known.seen w.known.seen) (v.known.kin ++ w.known.kin)) (Met v.known w.known)

abbrev pub spent : View
spent = viewed (knowing [] []) Idle
