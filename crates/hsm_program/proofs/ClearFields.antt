-- What is shown in the clear over all lanes, and by whom it was granted.
use Rattle.std.proofs.Common.{◌≡◌, ◌⊎◌, ℕ, zero, suc, ◌==◌, true, false, List, [], ◌∷◌, ◌++◌, flat_map, All, slice_get, Some, refl, sym, ap, subst, ◌∙◌, inl, inr, rules}
use Rattle.std.specs.List.{AllZip}
use Rattle.hsm_auth.specs.declared.activity.Activity.{Activity}
use Rattle.hsm_auth.specs.declared.entry.Ask.{Ask}
use Rattle.hsm_auth.specs.declared.entry.Ask.TheVariants.{Authorise}
use Rattle.hsm_auth.specs.declared.entry.Entry.{Entry}
use Rattle.hsm_auth.specs.History.{IsLegal}
use Rattle.hsm_auth.specs.Own.{own}
use Rattle.hsm_answers.specs.Clear.{Authorises, IsGrantedAt, ShowsClear}
use Rattle.hsm_answers.specs.Messages.{message_ask}
use Rattle.hsm_auth.specs.declared.activity.Place.{Place}
use Rattle.hsm_rows.specs.declared.settings.Module.{Module}
use Rattle.hsm_auth.specs.declared.activity.Place.TheVariants.{Host, Console}
use Rattle.hsm_session.specs.Connections.{AuthoriseNothing, IsEntryFor, asks_authorisation}
use Rattle.hsm_server.specs.Lanes.{IsServed, Served, all_entries, place_of}
use Rattle.hsm_program.proofs.Lists.{index_at, within}
use Rattle.hsm_program.specs.Headline.{IsAnsweredAt, IsByOfficers, ShowsGranted}

-- where an item of joined lists stands
pub record Within {A B : Type 0} (f : A → List B) (xs : List A) (y : B) : Type 0 where
  pub at : ℕ
  pub from : A
  pub there : slice_get xs at ≡ Some from
  pub index : ℕ
  pub here : slice_get (f from) index ≡ Some y

split_get : {B : Type 0} (front back : List B) (k : ℕ) (y : B) → slice_get (front ++ back) k ≡ Some y
    → ((slice_get front k ≡ Some y)) ⊎ ((j : ℕ) × (slice_get back j ≡ Some y))
split_get [] back k y at = inr (k, at)
split_get (b ∷ front) back zero y at = inl at
split_get (b ∷ front) back (suc k) y at = split_get front back k y at

pub within_joined : {A B : Type 0} (f : A → List B) (xs : List A) (k : ℕ) (y : B) → slice_get (flat_map f xs) k ≡ Some y → Within f xs y
within_joined f [] k y at = absurd (cc)
within_joined f (x ∷ xs) k y at = elim (split_get (f x) (flat_map f xs) k y at) [
  | inl first ↦ record { at = 0; from = x; there = refl; index = k; here = first }
  | inr later ↦ (let w = within_joined f xs later.0 y later.1 in record { at = suc w.at; from = w.from; there = w.there; index = w.index; here = w.here })
]

get_front : {B : Type 0} (front back : List B) (k : ℕ) (y : B) → slice_get front k ≡ Some y → slice_get (front ++ back) k ≡ Some y
get_front [] back k y at = absurd (cc)
get_front (b ∷ front) back zero y at = at
get_front (b ∷ front) back (suc k) y at = get_front front back k y at

get_back : {B : Type 0} (front back : List B) (k : ℕ) (y : B) → slice_get back k ≡ Some y → (j : ℕ) × (slice_get (front ++ back) j ≡ Some y)
get_back [] back k y at = (k, at)
get_back (b ∷ front) back k y at = let r = get_back front back k y at in (suc r.0, r.1)

-- an item of one of the joined lists stands in the whole
pub joined_within : {A B : Type 0} (f : A → List B) (xs : List A) (i : ℕ) (x : A) (k : ℕ) (y : B) → slice_get xs i ≡ Some x → slice_get (f x) k ≡ Some y
    → (j : ℕ) × (slice_get (flat_map f xs) j ≡ Some y)
joined_within f [] i x k y at here = absurd (cc)
joined_within f (z ∷ xs) zero x k y at here =
    let e : z ≡ x = cc in
    (k, get_front (f z) (flat_map f xs) k y (ap (λ (v : _). slice_get (f v) k) e ∙ here))
joined_within f (z ∷ xs) (suc i) x k y at here =
    let r = joined_within f xs i x k y at here in
    get_back (f z) (flat_map f xs) r.0 y r.1

-- the message of an entry, and the relation of the two
zip_other : {A B : Type 0} (R : A → B → Type 0) (xs : List A) (ys : List B) (k : ℕ) (y : B) → AllZip R xs ys → slice_get ys k ≡ Some y → (x : A) × (slice_get xs k ≡ Some x) × R x y
zip_other R [] [] k y all at = absurd (cc)
zip_other R [] (b ∷ ys) k y all at = absurd all
zip_other R (a ∷ xs) [] k y all at = absurd all
zip_other R (a ∷ xs) (b ∷ ys) zero y all at = let e : b ≡ y = cc in (a, refl, subst (λ (v : _). R a v) e all.0)
zip_other R (a ∷ xs) (b ∷ ys) (suc k) y all at = zip_other R xs ys k y all.1 at

-- the relation of a message and the entry at the same place
zip_both : {A B : Type 0} (R : A → B → Type 0) (xs : List A) (ys : List B) (k : ℕ) (x : A) (y : B) → AllZip R xs ys → slice_get xs k ≡ Some x → slice_get ys k ≡ Some y → R x y
zip_both R [] ys k x y all at there = absurd (cc)
zip_both R (a ∷ xs) [] k x y all at there = absurd all
zip_both R (a ∷ xs) (b ∷ ys) zero x y all at there = let e : a ≡ x = cc in let f : b ≡ y = cc in subst (λ (v : _). R v y) e (subst (λ (v : _). R a v) f all.0)
zip_both R (a ∷ xs) (b ∷ ys) (suc k) x y all at there = zip_both R xs ys k x y all.1 at there

all_at : {A : Type 0} (P : A → Type 0) (xs : List A) (k : ℕ) (x : A) → All P xs → slice_get xs k ≡ Some x → P x
all_at P xs k x all at = subst P (index_at xs k x x at) (all k x (within xs k x at))

-- what is known of each lane: its entries are those of its connections, with what their messages ask, and a host's authorise nothing
pub record Known (m : Module) (history : List Entry) (number : ℕ) (served : List Served) : Type 0 where
  pub entries : own number history ≡ all_entries served
  pub each : All (IsServed m (place_of number)) served
  pub hosts : place_of number ≡ Host → AuthoriseNothing (all_entries served)

-- what is known of all lanes
pub record AllKnown (m : Module) (history : List Entry) (connections : List (List Served)) : Type 0 where
  pub legal : IsLegal history
  pub numbers : (place : ℕ) (entry : Entry) → slice_get history place ≡ Some entry → (served : List Served) × (slice_get connections entry.pass ≡ Some served)
  pub lanes : (number : ℕ) (served : List Served) → slice_get connections number ≡ Some served → Known m history number served

-- the own entries of a pass are those of its number, with their places
abbrev pub OwnThere : Type 0
OwnThere = (n : ℕ) (h : List Entry) (j place : ℕ) (e : Entry) → slice_get (own n h) j ≡ Some (place, e) → (slice_get h place ≡ Some e) × (e.pass ≡ n)

abbrev pub OwnEvery : Type 0
OwnEvery = (n : ℕ) (h : List Entry) (place : ℕ) (e : Entry) → slice_get h place ≡ Some e → e.pass ≡ n → (j : ℕ) × (slice_get (own n h) j ≡ Some (place, e))

abbrev pub WordsAuthorise : Type 0
WordsAuthorise = (m : Module) (side : Place) (message : List ℕ) (activity : Activity) (minutes : ℕ)
    → message_ask m side message ≡ Authorise activity minutes → Authorises m side message activity minutes

abbrev pub ClearWhereGranted : Type 0
ClearWhereGranted = (m : Module) (side : Place) (message : List ℕ) (h : List Entry) (i : ℕ) (e : Entry)
    → IsLegal h → slice_get h i ≡ Some e → e.ask ≡ message_ask m side message
    → (s : ShowsClear m side message e.granted) → IsGrantedAt s.row s.read h i e

is_asked : (ask : Ask) (activity : Activity) (minutes : ℕ) → ask ≡ Authorise activity minutes → asks_authorisation ask ≡ true
is_asked ask activity minutes is = ap asks_authorisation is

not_zero : (n : ℕ) → (suc n == 0) ≡ false
not_zero n = search rules

of_host : (n : ℕ) → place_of (suc n) ≡ Host
of_host n = let e : place_of (suc n) ≡ Host = rw (not_zero n) refl in e

-- an entry that authorises is the console's
console_number : (m : Module) (history : List Entry) (served : List Served) (number j place : ℕ) (entry : Entry) (activity : Activity) (minutes : ℕ) → Known m history number served
    → slice_get (own number history) j ≡ Some (place, entry) → entry.ask ≡ Authorise activity minutes → number ≡ 0
console_number m history served zero j place entry activity minutes known at asks = refl
console_number m history served (suc n) j place entry activity minutes known at asks =
    let nothing = known.hosts (of_host n) j (place, entry) (ap (λ (entries : List (ℕ × Entry)). slice_get entries j) (sym known.entries) ∙ at) in
    absurd (let clash : true ≡ false = sym (is_asked entry.ask activity minutes asks) ∙ nothing in cc)

-- each authorisation is that of a console's text with both officers' words
by_officers : OwnEvery → WordsAuthorise → (m : Module) (history : List Entry) (connections : List (List Served)) (place : ℕ) (entry : Entry) (activity : Activity) (minutes : ℕ)
    → AllKnown m history connections → slice_get history place ≡ Some entry → entry.ask ≡ Authorise activity minutes
    → (entry.pass ≡ 0) × IsByOfficers m connections place entry activity minutes
by_officers every words m history connections place entry activity minutes known at asks =
    let lane = known.numbers place entry at in
    let of_lane = known.lanes entry.pass lane.0 lane.1 in
    let mine = every entry.pass history place entry at refl in
    let zero_is : entry.pass ≡ 0 = console_number m history lane.0 entry.pass mine.0 place entry activity minutes of_lane mine.1 asks in
    let w = within_joined (λ (served : Served). served.entries) lane.0 mine.0 (place, entry)
    (ap (λ (entries : List (ℕ × Entry)). slice_get entries mine.0) (sym of_lane.entries) ∙ mine.1) in
    let served : IsServed m (place_of entry.pass) w.from = all_at (IsServed m (place_of entry.pass)) lane.0 w.at w.from of_lane.each w.there in
    let message = zip_other (IsEntryFor m (place_of entry.pass)) w.from.messages w.from.entries w.index (place, entry) served.each w.here in
    let of_console : message_ask m Console message.0 ≡ entry.ask = sym (message.2 ∙ ap (λ (n : ℕ). message_ask m (place_of n) message.0) zero_is) in (
      zero_is,
      record {
        message = message.0;
        answered = record {
          lane = lane.0;
          lane_there = ap (λ (n : ℕ). slice_get connections n) (sym zero_is) ∙ lane.1;
          connection = w.at;
          served = w.from;
          served_there = w.there;
          index = w.index;
          message_there = message.1;
          entry_there = w.here;
        };
        words = words m Console message.0 activity minutes (of_console ∙ asks);
      },
    )

-- the entry at which a message was answered stands at its place in the history, and has what the message asks
answered_there : OwnThere → (m : Module) (history : List Entry) (connections : List (List Served)) (number : ℕ) (message : List ℕ) (place : ℕ) (entry : Entry)
    → AllKnown m history connections → IsAnsweredAt connections number message place entry
    → (slice_get history place ≡ Some entry) × (entry.ask ≡ message_ask m (place_of number) message)
answered_there there m history connections number message place entry known a =
    let of_lane = known.lanes number a.lane a.lane_there in
    let served : IsServed m (place_of number) a.served = all_at (IsServed m (place_of number)) a.lane a.connection a.served of_lane.each a.served_there in
    let j = joined_within (λ (served : Served). served.entries) a.lane a.connection a.served a.index (place, entry) a.served_there a.entry_there in
    let mine = there number history j.0 place entry (ap (λ (entries : List (ℕ × Entry)). slice_get entries j.0) of_lane.entries ∙ j.1) in
    (mine.0, zip_both (IsEntryFor m (place_of number)) a.served.messages a.served.entries a.index message (place, entry) served.each a.message_there a.entry_there)

pub clear_fields : OwnThere → OwnEvery → WordsAuthorise → ClearWhereGranted → (m : Module) (history : List Entry) (connections : List (List Served))
    → AllKnown m history connections → ShowsGranted m connections history
clear_fields there every words clear m history connections known = record {
  console = λ place entry activity minutes at asks. by_officers every words m history connections place entry activity minutes known at asks;
  granted = λ number message place entry answered shows.
      let here = answered_there there m history connections number message place entry known answered in
      let g = clear m (place_of number) message history place entry known.legal here.0 here.1 shows in
      record {
        at_entry = g;
        by_officers = (by_officers every words m history connections g.giver g.given.entry g.grant.activity g.given.minutes known g.given.there g.given.asks).1;
      };
}
