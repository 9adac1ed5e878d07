-- Each live grant was given by an entry, and no later entry ends it.
use Rattle.std.proofs.Common.{◌≡◌, ℕ, zero, suc, ◌<◌, Bool, true, false, cond, not, List, [], ◌∷◌, ◌++◌, length, take, drop, filter, slice_get, slice_index_or, Some, All, Contains, refl, sym, ap, subst, ◌∙◌, arith, append-nil, append_assoc}
use Rattle.std.proofs.lemmas.List.Folds.{Any-from_list_any}
use Rattle.std.proofs.lemmas.List.Elements.{All-filter, filter_passes, All-append, Contains-append_left, Contains-append_right}
use Rattle.hsm_auth.specs.declared.entry.Grant.{Grant}
use Rattle.hsm_auth.specs.declared.entry.Ask.{Ask}
use Rattle.hsm_auth.specs.declared.entry.Ask.TheVariants.{Use, Authorise, Cancel, CancelAll, Look, Recent}
use Rattle.hsm_auth.specs.declared.entry.Granted.{Granted}
use Rattle.hsm_auth.specs.declared.entry.Granted.TheVariants as granted
use Rattle.hsm_auth.specs.declared.activity.Activity.{Activity}
use Rattle.hsm_auth.specs.declared.entry.Entry.{Entry}
use Rattle.hsm_auth.specs.Activities.{covers}
use Rattle.hsm_auth.specs.History.{now, given, grant, end_of, is_authorised, is_ended, unended, lasts, live, is_met}
use Rattle.hsm_auth.specs.Grants.{GivenAt, IsLive}

-- the entry at the place i of the entries es, which follow the entries before, gave the grant
record GivenIn (before es : List Entry) (i : ℕ) (g : Grant) : Type 0 where
  entry : Entry
  there : slice_get es i ≡ Some entry
  given : given (now (before ++ take i es) entry.moment) entry.ask entry.granted ≡ g ∷ []
  unended : is_ended g.activity (drop (suc i) es) ≡ false

All-empty : {X : Type 0} (P : X → Type 0) → All P []
All-empty P k d lt = absurd (omega arith)

All-one : {X : Type 0} (P : X → Type 0) (x : X) → P x → All P (x ∷ [])
All-one P x h zero d lt = h
All-one P x h (suc k) d lt = absurd (omega arith)

All-weaker : {X : Type 0} (P Q : X → Type 0) (xs : List X) → ((x : X) → P x → Q x) → All P xs → All Q xs
All-weaker P Q xs f h k d lt = f (slice_index_or xs k d) (h k d lt)

All-both : {X : Type 0} (P Q : X → Type 0) (xs : List X) → All P xs → All Q xs → All (λ x. P x × Q x) xs
All-both P Q xs h g k d lt = (h k d lt, g k d lt)

not-true : (b : Bool) → not b ≡ true → b ≡ false
not-true true h = sym h
not-true false h = refl

-- the grant that is given, if there is one
given-one : (m : ℕ) (ask : Ask) (answer : Granted) → All (λ g. given m ask answer ≡ g ∷ []) (given m ask answer)
given-one m (Use needs words) answer = All-empty (λ g. [] ≡ g ∷ [])
given-one m (Authorise activity minutes) answer = one (is_authorised answer)
  where
    one : (b : Bool) → All (λ g. cond b (grant activity (end_of m minutes) ∷ []) [] ≡ g ∷ []) (cond b (grant activity (end_of m minutes) ∷ []) [])
    one true = All-one (λ g. grant activity (end_of m minutes) ∷ [] ≡ g ∷ []) (grant activity (end_of m minutes)) refl
    one false = All-empty (λ g. [] ≡ g ∷ [])
given-one m (Cancel activity) answer = All-empty (λ g. [] ≡ g ∷ [])
given-one m CancelAll answer = All-empty (λ g. [] ≡ g ∷ [])
given-one m Look answer = All-empty (λ g. [] ≡ g ∷ [])
given-one m Recent answer = All-empty (λ g. [] ≡ g ∷ [])

later : (before : List Entry) (e : Entry) (es : List Entry) (i : ℕ) (g : Grant) → GivenIn (before ++ e ∷ []) es i g → GivenIn before (e ∷ es) (suc i) g
later before e es i g h = record {
  entry = h.entry;
  there = h.there;
  given = ap (λ (b : List Entry). given (now b h.entry.moment) h.entry.ask h.entry.granted) (sym (append_assoc before (e ∷ []) (take i es))) ∙ h.given;
  unended = h.unended;
}

unended-given : (before es : List Entry) → All (λ (g : Grant). (i : ℕ) × GivenIn before es i g) (unended before es)
unended-given before [] = All-empty (λ (g : Grant). (i : ℕ) × GivenIn before [] i g)
unended-given before (e ∷ es) =
    let opened : List Grant = given (now before e.moment) e.ask e.granted in
    let test : Grant → Bool = λ g. not (is_ended g.activity es) in
    let one = All-filter test (λ (g : Grant). opened ≡ g ∷ []) opened (given-one (now before e.moment) e.ask e.granted) in
    let passes = filter_passes test opened in
    let first : All (λ (g : Grant). (i : ℕ) × GivenIn before (e ∷ es) i g) (filter test opened)
    = All-weaker (λ (g : Grant). (opened ≡ g ∷ []) × (test g ≡ true)) (λ (g : Grant). (i : ℕ) × GivenIn before (e ∷ es) i g) (filter test opened)
    (λ g h. (
      0,
      record {
        entry = e;
        there = refl;
        given = ap (λ (b : List Entry). given (now b e.moment) e.ask e.granted) (append-nil before) ∙ h.0;
        unended = not-true (is_ended g.activity es) h.1;
      },
    ))
    (All-both (λ (g : Grant). opened ≡ g ∷ []) (λ (g : Grant). test g ≡ true) (filter test opened) one passes) in
    let rest : All (λ (g : Grant). (i : ℕ) × GivenIn before (e ∷ es) i g) (unended (before ++ e ∷ []) es)
    = All-weaker (λ (g : Grant). (i : ℕ) × GivenIn (before ++ e ∷ []) es i g) (λ (g : Grant). (i : ℕ) × GivenIn before (e ∷ es) i g) (unended (before ++ e ∷ []) es)
    (λ g h. (suc h.0, later before e es h.0 g h.1))
    (unended-given (before ++ e ∷ []) es) in
    All-append (λ (g : Grant). (i : ℕ) × GivenIn before (e ∷ es) i g) (filter test opened) (unended (before ++ e ∷ []) es) first rest

-- the ask and the answer that give the grant
record GivesGrant (m : ℕ) (ask : Ask) (answer : Granted) (g : Grant) : Type 0 where
  minutes : ℕ
  asks : ask ≡ Authorise g.activity minutes
  answers : answer ≡ granted.Authorised
  end : g.end ≡ end_of m minutes

opens-from : (m : ℕ) (ask : Ask) (answer : Granted) (g : Grant) → given m ask answer ≡ g ∷ [] → GivesGrant m ask answer g
opens-from m (Use needs words) answer g e = cc
opens-from m (Authorise activity minutes) (granted.Use first) g e = cc
opens-from m (Authorise activity minutes) granted.Refused g e = cc
opens-from m (Authorise activity minutes) granted.Authorised g e =
    let same : grant activity (end_of m minutes) ≡ g = cc in record {
      minutes = minutes;
      asks = ap (λ (x : Grant). Authorise x.activity minutes) same;
      answers = refl;
      end = ap (λ (x : Grant). x.end) (sym same);
    }
opens-from m (Authorise activity minutes) granted.Full g e = cc
opens-from m (Authorise activity minutes) (granted.Cancelled count) g e = cc
opens-from m (Authorise activity minutes) (granted.Seen moment place grants) g e = cc
opens-from m (Authorise activity minutes) (granted.Recent notes) g e = cc
opens-from m (Cancel activity) answer g e = cc
opens-from m CancelAll answer g e = cc
opens-from m Look answer g e = cc
opens-from m Recent answer g e = cc

from-opens : (m : ℕ) (ask : Ask) (answer : Granted) (g : Grant) → GivesGrant m ask answer g → given m ask answer ≡ g ∷ []
from-opens m ask answer g o = (λ i. given m (o.asks i) (o.answers i)) ∙ ap (λ (k : ℕ). grant g.activity k ∷ []) (sym o.end)

given_at : (h : List Entry) (i : ℕ) (g : Grant) → GivenIn [] h i g → GivenAt h i g
given_at h i g x =
    let o = opens-from (now (take i h) x.entry.moment) x.entry.ask x.entry.granted g x.given in
    record { entry = x.entry; there = x.there; minutes = o.minutes; ask = o.asks; granted = o.answers; end = o.end; unended = x.unended }

given_in : (h : List Entry) (i : ℕ) (g : Grant) → GivenAt h i g → GivenIn [] h i g
given_in h i g x = record {
  entry = x.entry;
  there = x.there;
  given = from-opens (now (take i h) x.entry.moment) x.entry.ask x.entry.granted g record { minutes = x.minutes; asks = x.ask; answers = x.granted; end = x.end };
  unended = x.unended;
}

-- each live grant was given by some entry, no later entry ends it, and it lasts
pub live-given : (h : List Entry) (m : ℕ) → All (IsLive h m) (live h m)
live-given h m =
    let test : Grant → Bool = lasts (now h m) in
    let from = All-filter test (λ (g : Grant). (i : ℕ) × GivenIn [] h i g) (unended [] h) (unended-given [] h) in
    All-weaker (λ (g : Grant). ((i : ℕ) × GivenIn [] h i g) × (test g ≡ true)) (IsLive h m) (live h m)
    (λ g x. ((x.0.0, given_at h x.0.0 g x.0.1), x.1))
    (All-both (λ (g : Grant). (i : ℕ) × GivenIn [] h i g) (λ (g : Grant). test g ≡ true) (live h m) from (filter_passes test (unended [] h)))

contains-cons : {X : Type 0} (b : Bool) (y : X) (ys : List X) (x : X) → Contains ys x → Contains (cond b (y ∷ ys) ys) x
contains-cons true y ys x h = (suc h.0, (let lt = h.1 in omega arith), h.2)
contains-cons false y ys x h = h

contains-filter_at : {X : Type 0} (p : X → Bool) (xs : List X) (x : X) (k : ℕ) → k < length xs → slice_index_or xs k x ≡ x → p x ≡ true → Contains (filter p xs) x
contains-filter_at p [] x k lt e t = absurd (omega arith)
contains-filter_at p (y ∷ ys) x zero lt e t =
    let yes : p y ≡ true = ap p e ∙ t in
    subst (λ (b : Bool). Contains (cond b (y ∷ filter p ys) (filter p ys)) x) (sym yes) (0, omega arith, e)
contains-filter_at p (y ∷ ys) x (suc k) lt e t = contains-cons (p y) y (filter p ys) x (contains-filter_at p ys x k (omega arith) e t)

unended-contains : (before es : List Entry) (i : ℕ) (g : Grant) → GivenIn before es i g → Contains (unended before es) g
unended-contains before [] i g h = let none = h.there in cc
unended-contains before (e ∷ es) zero g h =
    let opened : List Grant = given (now before e.moment) e.ask e.granted in
    let test : Grant → Bool = λ x. not (is_ended x.activity es) in
    let there : Some e ≡ Some h.entry = h.there in
    let same : e ≡ h.entry = cc in
    let one : opened ≡ g ∷ [] = ap (λ (x : Entry). given (now before x.moment) x.ask x.granted) same ∙ (ap (λ (b : List Entry). given (now b h.entry.moment) h.entry.ask h.entry.granted) (sym (append-nil before)) ∙ h.given) in
    let passes : test g ≡ true = ap not h.unended in
    Contains-append_left (filter test opened) (unended (before ++ e ∷ []) es) g
    (subst (λ (gs : List Grant). Contains (filter test gs) g) (sym one) (contains-filter_at test (g ∷ []) g 0 (omega arith) refl passes))
unended-contains before (e ∷ es) (suc i) g h =
    Contains-append_right (filter (λ (x : Grant). not (is_ended x.activity es)) (given (now before e.moment) e.ask e.granted)) (unended (before ++ e ∷ []) es) g
    (unended-contains (before ++ e ∷ []) es i g record {
      entry = h.entry;
      there = h.there;
      given = ap (λ (b : List Entry). given (now b h.entry.moment) h.entry.ask h.entry.granted) (append_assoc before (e ∷ []) (take i es)) ∙ h.given;
      unended = h.unended;
    })

-- and each grant that some entry gave, that no later entry ends and that lasts is live
pub live-contains : (h : List Entry) (m : ℕ) (g : Grant) → IsLive h m g → Contains (live h m) g
live-contains h m g x =
    let there = unended-contains [] h x.0.0 g (given_in h x.0.0 g x.0.1) in
    contains-filter_at (lasts (now h m)) (unended [] h) g there.0 there.1 there.2 x.1

-- a need that is met is covered by a live grant
pub met-covered : (h : List Entry) (m : ℕ) (need : Activity) → is_met (Some need) (live h m) ≡ true → (g : Grant) × IsLive h m g × (covers g.activity need ≡ true)
met-covered h m need met =
    let some = Any-from_list_any (λ (g : Grant). covers g.activity need) (live h m) met in
    let here : IsLive h m (slice_index_or (live h m) some.0 some.1) = live-given h m some.0 some.1 some.2 in
    (some.1, subst (IsLive h m) some.3 here, some.4)
