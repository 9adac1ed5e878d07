-- One booking, put together from its steps.
use Rattle.std.proofs.Common.{◌≡◌, ℕ, ◌+◌, ◌%◌, ◌^◌, ◌<◌, ◌≤◌, List, [], ◌∷◌, ◌++◌, length, take, slice_index_or, slice_set, Option, Some, None, refl, sym, ap, ap₂, ◌∙◌, subst, arith, length-append}
use Rattle.std.proofs.lemmas.List.{take_more, take_more_set}
use Rattle.atomic_table.specs.Table.{Allows, rest}
use Rattle.atomic_table.specs.Seated.{TableId}
use Rattle.hsm_auth.specs.declared.entry.Ask.{Ask}
use Rattle.hsm_auth.specs.declared.entry.Granted.{Granted}
use Rattle.hsm_auth.specs.declared.ledger.Ledger.{Ledger}
use Rattle.hsm_auth.specs.declared.entry.Entry.{Entry}
use Rattle.hsm_auth.specs.History.{entry, outcome, IsLegal, StandsFor}
use Rattle.hsm_desk.specs.declared.view.Known.{Known}
use Rattle.hsm_desk.specs.declared.view.View.{View}
use Rattle.hsm_desk.specs.declared.view.InSlot.{InSlot}
use Rattle.hsm_desk.specs.declared.view.Stage.TheVariants.{Idle, Waiting, Turn}
use Rattle.hsm_desk.specs.Kin.{IsCons, IsKin, IsSound, Owns, first_pair, Grows}
use Rattle.hsm_desk.specs.Rule.{knowing, viewed, Ruled, Seated, Enters, Takes, Has, entry_by, ticket_of}
use Rattle.hsm_desk.specs.declared.desk.Booked.{Booked}
use Rattle.hsm_desk.specs.Passes.{PassAndClock, PassView, Books, BooksAll, BooksOne}
use Rattle.hsm_desk.proofs.Moves.{enters_at}

abbrev Carried : Type 0
Carried = List (ℕ × Option InSlot)

pub enters_from : (slots id t : ℕ) (was me : Seated) (x : InSlot) → slots ≡ 1 → was.0.stage ≡ Turn t → was.1 ≡ (0, None) ∷ [] → me ≡ (was.0, (0, Some x) ∷ rest was.1) → t < 2 ^ 62
    → IsLegal (was.0.known.seen ++ entry_by was.0.known.kin x ∷ []) → StandsFor x.ledger.value (was.0.known.seen ++ entry_by was.0.known.kin x ∷ []) → Allows Ruled slots id me 0 (λ n. (n + 1) % 2 ^ 64) (Enters me)
enters_from slots id t was me x one st empty is early may stands =
    let e : me ≡ (was.0, (0, Some x) ∷ []) = is ∙ ap (λ (c : Carried). (was.0, (0, Some x) ∷ rest c)) empty in
    subst (λ (m : Seated). Allows Ruled slots id m 0 (λ n. (n + 1) % 18446744073709551616) (Enters m)) (sym e) (enters_at slots id t (was.0, (0, Some x) ∷ []) x one st refl early may stands)

pub slot_there : (m m' : Seated) → Takes m m' → (x : Option InSlot) × (m'.1 ≡ (0, x) ∷ rest m'.1)
slot_there m m' t = let y : Option InSlot = Some t.slot.0 in (y, subst (λ (c : Carried). c ≡ (0, y) ∷ rest c) (sym t.slot.1) refl)

found_in : Option InSlot → Carried → Option InSlot
found_in x [] = x
found_in x (c ∷ cs) = c.1

-- what was found in the slot is what was taken
pub found_is : (m m' : Seated) (r : Option InSlot) (t : Takes m m') → m'.1 ≡ (0, r) ∷ rest m'.1 → r ≡ Some t.slot.0
unfolding found_in
found_is m m' r t is = ap (found_in r) (sym is ∙ t.slot.1)

pub has_from : (ticket : ℕ) (old mid new : Seated) (r : Option InSlot) (x : InSlot) → old.0.stage ≡ Waiting ticket → Takes old mid → mid.1 ≡ (0, r) ∷ rest mid.1 → new ≡ (mid.0, (0, None) ∷ rest mid.1) → r ≡ Some x → Has ticket old new x
has_from ticket old mid new r x st t is now some =
    let y : InSlot = t.slot.0 in
    let same : Some y ≡ Some x = sym (found_is old mid r t is) ∙ some in
    let held : y ≡ x = cc (same) in
    let seat : new.0 ≡ mid.0 = ap (λ (m : Seated). m.0) now in
    let ticket' : ticket_of old.0.stage ≡ ticket = ap ticket_of st in record {
      stage = ap (λ (v : View). v.stage) seat ∙ (t.stage ∙ ap Turn ticket');
      kin = ap (λ (v : View). v.known.kin) seat ∙ t.kin;
      grows = subst (λ (v : View). Grows old.0.known.kin old.0.known.seen v.known.seen) (sym seat) t.grows;
      place = ap (λ (v : View). length v.known.seen) seat ∙ (t.place ∙ ticket');
      legal = subst (λ (v : View). IsLegal v.known.seen) (sym seat) t.legal;
      slot = ap (λ (m : Seated). m.1) now ∙ ap (λ (c : Carried). (0, None) ∷ rest c) t.slot.1;
      ledger = subst (λ (z : InSlot × View). StandsFor z.0.ledger.value z.1.known.seen) (λ i. (held i, sym seat i)) t.slot.2;
    }

-- the history with the entry is legal, and the ledger then stands for it
pub may_enter : (seen : List Entry) (kin : List (ℕ × ℕ)) (moment : ℕ) (ask : Ask) (granted : Granted) (was : Ledger) (x : InSlot) → StandsFor was seen → IsLegal seen
    → ((h : List Entry) (pass : ℕ) → StandsFor was h → StandsFor x.ledger.value (h ++ entry pass moment ask granted ∷ []))
    → ((h : List Entry) (pass : ℕ) → StandsFor was h → IsLegal h → IsLegal (h ++ entry pass moment ask granted ∷ []))
    → x.moment ≡ moment → x.ask.value ≡ ask → x.granted.value ≡ granted
    → IsLegal (seen ++ entry_by kin x ∷ []) × StandsFor x.ledger.value (seen ++ entry_by kin x ∷ [])
may_enter seen kin moment ask granted was x stands legal goes_on stays_legal m a b =
    let e : entry_by kin x ≡ entry (first_pair kin).0 moment ask granted = λ i. entry (first_pair kin).0 (m i) (a i) (b i) in (
      subst (λ (z : Entry). IsLegal (seen ++ z ∷ [])) (sym e) (stays_legal seen (first_pair kin).0 stands legal),
      subst (λ (z : Entry). StandsFor x.ledger.value (seen ++ z ∷ [])) (sym e) (goes_on seen (first_pair kin).0 stands),
    )

abbrev pub pass_view : TableId → Known → PassView
pass_view desk known = record { desk = desk; seen = known.seen; kin = known.kin }

pub books_from : (desk desk' : TableId) (known : Known) (t : ℕ) (drawn taken made : Seated) (x0 x : InSlot) (moment : ℕ) (ask : Ask) (granted : Granted) (place : ℕ)
    → desk' ≡ desk → drawn ≡ (viewed known (Waiting t), []) → t < 2 ^ 62 → Has t drawn taken x0 → IsLegal (taken.0.known.seen ++ entry_by taken.0.known.kin x ∷ [])
    → place ≡ length taken.0.known.seen → made ≡ (viewed (knowing (taken.0.known.seen ++ entry_by taken.0.known.kin x ∷ []) taken.0.known.kin) Idle, [])
    → x.moment ≡ moment → x.ask.value ≡ ask → x.granted.value ≡ granted → granted ≡ outcome taken.0.known.seen moment ask
    → Books (pass_view desk known) (pass_view desk' made.0.known) moment ask granted place
books_from desk desk' known t drawn taken made x0 x moment ask granted place here draws early has may stands makes m a b answers =
    let seen : List Entry = taken.0.known.seen in
    let kin' : taken.0.known.kin ≡ known.kin = has.kin ∙ ap (λ (s : Seated). s.0.known.kin) draws in
    let grows : Grows known.kin known.seen seen = subst (λ (s : Seated). Grows s.0.known.kin s.0.known.seen seen) draws has.grows in
    let others : List Entry = grows.begins.0 in
    let all : known.seen ++ others ≡ seen = grows.begins.1 in
    let e : entry_by taken.0.known.kin x ≡ entry (first_pair known.kin).0 moment ask granted = λ i. entry (first_pair (kin' i)).0 (m i) (a i) (b i) in
    let new : made.0.known.seen ≡ seen ++ entry_by taken.0.known.kin x ∷ [] = ap (λ (s : Seated). s.0.known.seen) makes in record {
      others = others;
      apart = subst (Grows known.kin known.seen) (sym all) grows;
      seen = new ∙ ap₂ (λ (h : List Entry) (z : Entry). h ++ z ∷ []) (sym all) e;
      answers = answers ∙ ap (λ (h : List Entry). outcome h moment ask) (sym all);
      stands = stands ∙ (ap (length {A = Entry}) (sym all) ∙ length-append known.seen others);
      early = (let p = has.place in omega arith);
      desk = here;
      kin = ap (λ (s : Seated). s.0.known.kin) makes ∙ kin';
    }

-- the same, of the pass as contracts saw it before
pub books_as : (p : PassView) (desk desk' : TableId) (known : Known) (t : ℕ) (drawn taken made : Seated) (x0 x : InSlot) (moment : ℕ) (ask : Ask) (granted : Granted) (place : ℕ)
    → pass_view desk known ≡ p → desk' ≡ desk → drawn ≡ (viewed known (Waiting t), []) → t < 2 ^ 62 → Has t drawn taken x0 → IsLegal (taken.0.known.seen ++ entry_by taken.0.known.kin x ∷ [])
    → place ≡ length taken.0.known.seen → made ≡ (viewed (knowing (taken.0.known.seen ++ entry_by taken.0.known.kin x ∷ []) taken.0.known.kin) Idle, [])
    → x.moment ≡ moment → x.ask.value ≡ ask → x.granted.value ≡ granted → granted ≡ outcome taken.0.known.seen moment ask
    → Books p (pass_view desk' made.0.known) moment ask granted place
books_as p desk desk' known t drawn taken made x0 x moment ask granted place is here draws early has may stands makes m a b answers =
    subst (λ (q : PassView). Books q (pass_view desk' made.0.known) moment ask granted place) is
    (books_from desk desk' known t drawn taken made x0 x moment ask granted place here draws early has may stands makes m a b answers)

-- what holds of the pass after a booking
pub sound_after : (known : Known) (t : ℕ) (drawn taken made : Seated) (x0 x : InSlot) → IsSound known.seen known.kin → drawn ≡ (viewed known (Waiting t), []) → t < 2 ^ 62 → Has t drawn taken x0 → IsLegal (taken.0.known.seen ++ entry_by taken.0.known.kin x ∷ [])
    → made ≡ (viewed (knowing (taken.0.known.seen ++ entry_by taken.0.known.kin x ∷ []) taken.0.known.kin) Idle, []) → Owns (taken.0.known.seen ++ entry_by taken.0.known.kin x ∷ []) taken.0.known.kin
    → IsSound made.0.known.seen made.0.known.kin
sound_after known t drawn taken made x0 x sound draws early has may makes own =
    let seen : List Entry = taken.0.known.seen in
    let kin' : known.kin ≡ taken.0.known.kin = sym (has.kin ∙ ap (λ (s : Seated). s.0.known.kin) draws) in
    let few : length (seen ++ entry_by taken.0.known.kin x ∷ []) ≤ 2 ^ 62 = let long = length-append seen (entry_by taken.0.known.kin x ∷ []) in let place = has.place in omega arith in
    let fact : IsSound (seen ++ entry_by taken.0.known.kin x ∷ []) taken.0.known.kin = record { legal = may; pairs = subst IsKin kin' sound.pairs; own = own; first = subst IsCons kin' sound.first; few = few } in
    subst (λ (s : Seated). IsSound s.0.known.seen s.0.known.kin) (sym makes) fact

pub own_from : (was me : Seated) (x : InSlot) (n : ℕ) (new : Seated) → was.1 ≡ (0, None) ∷ [] → me ≡ (was.0, (0, Some x) ∷ rest was.1) → Enters me n new → Owns (was.0.known.seen ++ entry_by was.0.known.kin x ∷ []) was.0.known.kin
own_from was me x n new empty is told =
    let e : me ≡ (was.0, (0, Some x) ∷ []) = is ∙ ap (λ (c : Carried). (was.0, (0, Some x) ∷ rest c)) empty in
    let fact = told x (ap (λ (m : Seated). m.1) e) in
    subst (λ (m : Seated). Owns (m.0.known.seen ++ entry_by m.0.known.kin x ∷ []) m.0.known.kin) e fact.own

-- one more booking
pub books_push : (start old new : PassAndClock) (asks : List Ask) (booked : List Booked) (ask : Ask) (answer : Booked) → BooksAll start old asks booked → BooksOne old new ask answer
    → BooksAll start new (asks ++ ask ∷ []) (booked ++ answer ∷ [])
books_push start old new [] [] ask answer same one = (new, subst (λ (from : PassAndClock). BooksOne from new ask answer) same one, refl)
books_push start old new [] (b ∷ booked) ask answer none one = absurd none
books_push start old new (a ∷ asks) [] ask answer none one = absurd none
books_push start old new (a ∷ asks) (b ∷ booked) ask answer all one = (all.0, all.1, books_push all.0 old new asks booked ask answer all.2 one)

-- one more booking for the next of a list of asks, with its answer in the place of the next of a list
pub books_more : (start old new : PassAndClock) (asks : List Ask) (booked : List Booked) (at : ℕ) (other : Ask) (answer : Booked) → at < length asks → at < length booked
    → BooksAll start old (take at asks) (take at booked) → BooksOne old new (slice_index_or asks at other) answer → BooksAll start new (take (at + 1) asks) (take (at + 1) (slice_set booked at answer))
books_more start old new asks booked at other answer within there all one =
    let first : take (at + 1) asks ≡ take at asks ++ slice_index_or asks at other ∷ [] = take_more asks at other within in
    let second : take (at + 1) (slice_set booked at answer) ≡ take at booked ++ answer ∷ [] = take_more_set booked at answer there in
    subst (λ (both : List Ask × List Booked). BooksAll start new both.0 both.1) (λ i. (sym first i, sym second i))
    (books_push start old new (take at asks) (take at booked) (slice_index_or asks at other) answer all one)
