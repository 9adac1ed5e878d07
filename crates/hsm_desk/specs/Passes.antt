-- Passes and bookings, as contracts see them.
use Rattle.std.specs.Prelude.{◌≡◌, ℕ, ◌+◌, ◌^◌, ◌<◌, ◌≤◌, List, [], ◌∷◌, ◌++◌, length, slice_get, Option, Some}
use mathlib.Core.List.{IsPrefix}
use Rattle.atomic_table.specs.Seated.{TableId}
use Rattle.hsm_auth.specs.declared.entry.Ask.{Ask}
use Rattle.hsm_auth.specs.declared.entry.Granted.{Granted}
use Rattle.hsm_auth.specs.declared.entry.Entry.{Entry}
use Rattle.hsm_auth.specs.History.{entry, outcome}
use Rattle.hsm_auth.specs.Own.{own}
use Rattle.hsm_io.specs.Moments.{tick, after_now}
use Rattle.hsm_desk.specs.declared.desk.Booked.{Booked}
use Rattle.hsm_desk.specs.Kin.{IsSpanned, EachSpanning, Grows, IsSound, first_pair, kept_kin, new_kin}

-- a pass: the desk that it belongs to, the history that it has seen, and its kin, which begins with its own number and step
pub record PassView : Type 0 where
  pub desk : TableId
  pub seen : List Entry
  pub kin : List (ℕ × ℕ)

-- the number of a pass
abbrev pub number : PassView → ℕ
number p = (first_pair p.kin).0

-- the step of a pass
abbrev pub step : PassView → ℕ
step p = (first_pair p.kin).1

-- what each pass keeps: its history is legal and of at most 2 ^ 62 entries, its pairs are pairs, and each entry whose number a pair spans has the pair's own number
abbrev pub Sound : PassView → Type 0
Sound p = IsSound p.seen p.kin

-- the pairs of its kin span every number
abbrev pub IsWhole : PassView → Type 0
IsWhole p = (x : ℕ) → IsSpanned p.kin x

-- the number of each entry that was seen is that of a pair of the kin
abbrev pub OnlyKin : PassView → Type 0
OnlyKin p = (k : ℕ) (e : Entry) → slice_get p.seen k ≡ Some e → (j : ℕ) × (q : ℕ × ℕ) × (slice_get p.kin j ≡ Some q) × (e.pass ≡ q.0)

-- one booking: its entry stands last; between what the pass had seen and it stand only entries whose numbers the kin does not span
pub record Books (p q : PassView) (moment : ℕ) (ask : Ask) (granted : Granted) (place : ℕ) : Type 0 where
  pub others : List Entry
  pub apart : Grows p.kin p.seen (p.seen ++ others)
  pub seen : q.seen ≡ (p.seen ++ others) ++ entry (number p) moment ask granted ∷ []
  pub answers : granted ≡ outcome (p.seen ++ others) moment ask
  pub stands : place ≡ length p.seen + length others
  pub early : place < 2 ^ 62
  pub desk : q.desk ≡ p.desk
  pub kin : q.kin ≡ p.kin

-- the entries of the booking pass, with their places: those from before and the new one
abbrev pub OwnBooked : PassView → PassView → ℕ → Ask → Granted → ℕ → Type 0
OwnBooked p q moment ask granted place = own (number p) q.seen ≡ own (number p) p.seen ++ (place, entry (number p) moment ask granted) ∷ []

-- What a pass and the clock that it books with show at one time: the pass, the moment that the clock gave last, and where told those to come.
pub record PassAndClock : Type 0 where
  pub pass : PassView
  pub last : ℕ
  pub to_come : Option (List ℕ)

abbrev pub with_clock : PassView → ℕ → Option (List ℕ) → PassAndClock
with_clock pass last to_come = record { pass = pass; last = last; to_come = to_come }

-- One booking, for which the clock was asked once: the moment that it gave is the entry's.
pub record BooksOne (before after : PassAndClock) (ask : Ask) (booked : Booked) : Type 0 where
  pub entry : Books before.pass after.pass after.last ask booked.granted booked.place
  pub own : OwnBooked before.pass after.pass after.last ask booked.granted booked.place
  pub sound : Sound after.pass
  pub moment : (moments : List ℕ) → before.to_come ≡ Some moments → (after.last ≡ tick moments 0) × (after.to_come ≡ Some (after_now moments))

-- One booking for each of the asks, in their order, each from where the one before it left the pass and the clock: the answers are just those of these bookings, each in its ask's place.
abbrev pub BooksAll : PassAndClock → PassAndClock → List Ask → List Booked → Type 0
BooksAll before after [] [] = after ≡ before
BooksAll before after [] (b ∷ booked) = ⊥
BooksAll before after (ask ∷ asks) [] = ⊥
BooksAll before after (ask ∷ asks) (b ∷ booked) = (between : PassAndClock) × BooksOne before between ask b × BooksAll between after asks booked

-- The pass made just these entries, in this order: its number and its kin stayed, and its history went on. The other entries that came are of numbers that its kin does not span.
pub record Makes (p q : PassView) (entries : List (ℕ × Entry)) : Type 0 where
  pub desk : q.desk ≡ p.desk
  pub kin : q.kin ≡ p.kin
  pub begins : IsPrefix p.seen q.seen
  pub own : own (number p) q.seen ≡ own (number p) p.seen ++ entries
  pub apart : (k : ℕ) (e : Entry) → length p.seen ≤ k → slice_get q.seen k ≡ Some e → EachSpanning p.kin e.pass (λ _. e.pass ≡ number p)
  pub sound : Sound q

-- the first pass of a desk: it has seen nothing, its number is 0 and its step 1
abbrev pub first_pass : TableId → PassView
first_pass desk = record { desk = desk; seen = []; kin = (0, 1) ∷ [] }

-- the given pass after a split
abbrev pub kept_pass : PassView → PassView
kept_pass p = record { desk = p.desk; seen = p.seen; kin = kept_kin p.kin }

-- the new pass after a split
abbrev pub new_pass : PassView → PassView
new_pass p = record { desk = p.desk; seen = p.seen; kin = new_kin p.kin }

-- the second pass was joined into the first
pub record Meets (p other q : PassView) : Type 0 where
  pub desk : q.desk ≡ p.desk
  pub kin : q.kin ≡ p.kin ++ other.kin
  pub mine : Grows p.kin p.seen q.seen
  pub theirs : Grows other.kin other.seen q.seen

-- the entries of each number of the first pass's kin, with their places, are the same in what the second has seen
abbrev pub KeepsOwn : PassView → PassView → Type 0
KeepsOwn p q = (j : ℕ) (n : ℕ × ℕ) → slice_get p.kin j ≡ Some n → own n.0 q.seen ≡ own n.0 p.seen
