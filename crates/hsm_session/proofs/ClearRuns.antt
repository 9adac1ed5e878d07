-- The messages of the entries of a run.
use Rattle.std.proofs.Common.{◌≡◌, ℕ, zero, suc, ◌+◌, ◌-◌, ◌<◌, ◌≤◌, List, [], ◌∷◌, ◌++◌, length, take, Some, refl, sym, ap, ◌∙◌, subst, inl, inr, append_assoc, append-nil, length-append, arith}
use Rattle.std.specs.Prelude.{◌⊎◌, Contains, slice_get, Option}
use Rattle.std.proofs.lemmas.Option.{slice_get_within}
use Rattle.std.proofs.lemmas.List.{take-append-le}
use Rattle.std.proofs.Math.Seq.{take-append-add}
use Rattle.std.proofs.lemmas.Bool.{cases_lt}
use Rattle.circular_buffer.proofs.Places.{slice_get-append_left, slice_get-append_right}
use Rattle.hsm_auth.specs.declared.entry.Entry.{Entry}
use Rattle.hsm_rows.specs.declared.settings.Module.{Module}
use Rattle.hsm_auth.specs.declared.activity.Activity.{Activity}
use Rattle.hsm_auth.specs.declared.entry.Ask.TheVariants.{Authorise}
use Rattle.hsm_auth.specs.History.{outcome}
use Rattle.hsm_answers.specs.Clear.{Authorises, IsGrantedAt, ShowsClear}
use Rattle.hsm_answers.specs.Messages.{message_ask}
use Rattle.hsm_auth.specs.declared.activity.Place.{Place}
use Rattle.hsm_auth.specs.declared.activity.Place.TheVariants as place
use Rattle.hsm_session.specs.Booking.{entry_of, entries_of}
use Rattle.hsm_session.specs.Clear.{Brings, HasMessage, IsByOfficers, IsEntryOf, IsGranted}
use Rattle.hsm_session.specs.Runs.{IsRunOfLine, IsRunOfLines, moment_at}
use Rattle.hsm_session.specs.Scripts.{Said, Nothing, Moment, Piece, Console}

-- the entry at place k of those that follow the history h is that of a message of which this holds
record Follows (m : Module) (Is : Place → ℕ → List ℕ → Type 0) (h more : List Entry) (k : ℕ) : Type 0 where
  side : Place
  moment : ℕ
  message : List ℕ
  is : Is side moment message
  entered : slice_get more k ≡ Some (entry_of m side moment (h ++ take k more) message)

in_rest : (first message : List ℕ) (rest : List (List ℕ)) → Contains rest message → Contains (first ∷ rest) message
in_rest first message rest c = (suc c.0, omega (arith, c.1), c.2)

-- a host's messages one after another
follow : (m : Module) (Is : Place → ℕ → List ℕ → Type 0) (moment : ℕ) (h : List Entry) (messages : List (List ℕ))
    → ((message : List ℕ) → Contains messages message → Is place.Host moment message)
    → (k : ℕ) → k < length (entries_of m moment h messages) → Follows m Is h (entries_of m moment h messages) k
follow m Is moment h [] all k low = absurd (omega (arith, low))
follow m Is moment h (message ∷ messages) all zero low = record {
  side = place.Host;
  moment = moment;
  message = message;
  is = all message (0, omega arith, refl);
  entered = ap (λ (g : List Entry). Some (entry_of m place.Host moment g message)) (sym (append-nil h));
}
follow m Is moment h (message ∷ messages) all (suc k) low =
    let e = entry_of m place.Host moment h message in
    let later = entries_of m moment (h ++ e ∷ []) messages in
    let f = follow m Is moment (h ++ e ∷ []) messages (λ other c. all other (in_rest message other messages c)) k (omega (arith, low)) in
    record {
      side = f.side;
      moment = f.moment;
      message = f.message;
      is = f.is;
      entered = f.entered ∙ ap (λ (g : List Entry). Some (entry_of m f.side f.moment g f.message)) (append_assoc h (e ∷ []) (take k later));
    }

-- a console's message
follow_one : (m : Module) (Is : Place → ℕ → List ℕ → Type 0) (moment : ℕ) (h : List Entry) (message : List ℕ) → Is place.Console moment message
    → (k : ℕ) → k < 1 → Follows m Is h (entry_of m place.Console moment h message ∷ []) k
follow_one m Is moment h message one zero low = record {
  side = place.Console;
  moment = moment;
  message = message;
  is = one;
  entered = ap (λ (g : List Entry). Some (entry_of m place.Console moment g message)) (sym (append-nil h));
}
follow_one m Is moment h message one (suc k) low = absurd (omega (arith, low))

-- the line brings the message at its moment
abbrev IsBroughtAt : Module → List Said → Said → Place → ℕ → List ℕ → Type 0
IsBroughtAt m earlier line side moment message = (moment ≡ moment_at earlier) × Brings m earlier line side message

-- the entries of a line
tells : (m : Module) (h : List Entry) (earlier : List Said) (line : Said) (more : List Entry) (text : List ℕ) → IsRunOfLine m h earlier line more text
    → (k : ℕ) → k < length more → Follows m (IsBroughtAt m earlier line) h more k
tells m h earlier Nothing more text t k low = absurd (omega (arith, low, ap length t.0))
tells m h earlier (Moment moment) more text t k low = absurd (omega (arith, low, ap length t.0))
tells m h earlier (Piece lane bytes) more text (messages, before, new, after, f, g, booked, printed) k low =
    let Is = IsBroughtAt m earlier (Piece lane bytes) in
    subst (λ (es : List Entry). Follows m Is h es k) (sym booked)
    (follow m Is (moment_at earlier) h new (λ message c. (refl, (refl, (messages, before, new, after, f, g, c)))) k (subst (λ (es : List Entry). k < length es) booked low))
tells m h earlier (Console message) more text t k low =
    let Is = IsBroughtAt m earlier (Console message) in
    subst (λ (es : List Entry). Follows m Is h es k) (sym t.0)
    (follow_one m Is (moment_at earlier) h message (refl, (refl, refl)) k (subst (λ (es : List Entry). k < length es) t.0 low))

-- a run's history begins with the history before it
starts : (m : Module) (h : List Entry) (earlier later : List Said) (last : List Entry) (text : List ℕ) → IsRunOfLines m h earlier later last text
    → (tail : List Entry) × (last ≡ h ++ tail)
starts m h earlier [] last text (same, none) = ([], same ∙ sym (append-nil h))
starts m h earlier (line ∷ later) last text (more, first, rest, t, split, p) =
    let s = starts m (h ++ more) (earlier ++ line ∷ []) later last rest p in
    (more ++ s.0, s.1 ∙ append_assoc h more s.0)

-- the entries before place k of those that follow the history h
front_is : (h more tail last : List Entry) (i k : ℕ) → last ≡ (h ++ more) ++ tail → i ≡ length h + k → k ≤ length more → take i last ≡ h ++ take k more
front_is h more tail last i k whole at low =
    ap (take i) whole
    ∙ (take-append-le i (h ++ more) tail (omega (arith, at, low, length-append h more))
    ∙ (ap (λ (n : ℕ). take n (h ++ more)) at ∙ take-append-add h more k))

-- the entry at place k of those that follow the history h
entry_is : (h more tail last : List Entry) (i k : ℕ) → last ≡ (h ++ more) ++ tail → i ≡ length h + k → k < length more → slice_get last i ≡ slice_get more k
entry_is h more tail last i k whole at low =
    ap (λ (es : List Entry). slice_get es i) whole
    ∙ (slice_get-append_left (h ++ more) tail i (omega (arith, at, low, length-append h more)) ∙ slice_get-append_right h more i k at)

here : (m : Module) (earlier : List Said) (line : Said) (later : List Said) (h more tail last : List Entry) (i k : ℕ) → last ≡ (h ++ more) ++ tail → i ≡ length h + k
    → k < length more → Follows m (IsBroughtAt m earlier line) h more k → HasMessage m (earlier ++ line ∷ later) last i
here m earlier line later h more tail last i k whole at low f = record {
  side = f.side;
  moment = f.moment;
  message = f.message;
  said = record { earlier = earlier; line = line; later = later; place = refl; moment_there = f.is.0; brings = f.is.1 };
  entered =
      entry_is h more tail last i k whole at low
      ∙ (f.entered ∙ ap (λ (g : List Entry). Some (entry_of m f.side f.moment g f.message)) (sym (front_is h more tail last i k whole at (omega (arith, low)))));
}

-- what comes before a place, and what comes from it on
pub by_place : {P : Type 0} (i n : ℕ) → (i < n → P) → (n ≤ i → P) → (i < n) ⊎ (n ≤ i) → P
by_place i n p q (inl less) = p less
by_place i n p q (inr more) = q more

pub each_message : (m : Module) (h : List Entry) (earlier later : List Said) (last : List Entry) (text : List ℕ) → IsRunOfLines m h earlier later last text
    → (i : ℕ) → length h ≤ i → i < length last → HasMessage m (earlier ++ later) last i
each_message m h earlier [] last text (same, none) i least low = absurd (omega (arith, least, low, ap length same))
each_message m h earlier (line ∷ later) last text (more, first, rest, t, split, p) i least low =
    let s = starts m (h ++ more) (earlier ++ line ∷ []) later last rest p in
    let k = i - length h in
    by_place i (length h + length more)
    (λ less.
    here m earlier line later h more s.0 last i k s.1 (omega (arith, least)) (omega (arith, least, less)) (tells m h earlier line more first t k (omega (arith, least, less))))
    (λ past.
    subst (λ (lines : List Said). HasMessage m lines last i) (append_assoc earlier (line ∷ []) later)
    (each_message m (h ++ more) (earlier ++ line ∷ []) later last rest p i (omega (arith, past, length-append h more)) low))
    (cases_lt i (length h + length more))

-- every ask for an authorisation is that of both officers' words
abbrev pub WordsAuthorise : Type 0
WordsAuthorise = (m : Module) (side : Place) (message : List ℕ) (activity : Activity) (minutes : ℕ)
    → message_ask m side message ≡ Authorise activity minutes → Authorises m side message activity minutes

-- an answer that shows a clear key or PIN, at an entry that is answered what the entries before it say, was granted
abbrev pub ClearGranted : Type 0
ClearGranted = (m : Module) (side : Place) (message : List ℕ) (h : List Entry) (i : ℕ) (e : Entry)
    → slice_get h i ≡ Some e → e.ask ≡ message_ask m side message → e.granted ≡ outcome (take i h) e.moment e.ask
    → (s : ShowsClear m side message e.granted) → IsGrantedAt s.row s.read h i e

pub same_entry : (e d : Entry) (o : Option Entry) → o ≡ Some e → o ≡ Some d → e ≡ d
same_entry e d o x y = cc

pub by_officers : WordsAuthorise → (m : Module) (h : List Entry) (lines : List Said) (last : List Entry) (text : List ℕ) → IsRunOfLines m h [] lines last text
    → (i : ℕ) (e : Entry) (activity : Activity) (minutes : ℕ) → length h ≤ i → slice_get last i ≡ Some e → e.ask ≡ Authorise activity minutes
    → IsByOfficers m lines last i activity minutes
by_officers words m h lines last text p i e activity minutes least there asks =
    let b = each_message m h [] lines last text p i least (slice_get_within last i e there) in
    let same = same_entry e (entry_of m b.side b.moment (take i last) b.message) (slice_get last i) there b.entered in
    record { of_message = b; words = words m b.side b.message activity minutes (sym (ap (λ (x : Entry). x.ask) same) ∙ asks) }

pub granted_before : WordsAuthorise → ClearGranted → (m : Module) (h : List Entry) (lines : List Said) (last : List Entry) (text : List ℕ) → IsRunOfLines m h [] lines last text
    → (i : ℕ) (e : Entry) (side : Place) (moment : ℕ) (message : List ℕ) → slice_get last i ≡ Some e → IsEntryOf m last i side moment message
    → (s : ShowsClear m side message e.granted) → IsGranted m lines (length h) last i e s.row s.read
granted_before words granted m h lines last text p i e side moment message there entered s =
    let same = same_entry e (entry_of m side moment (take i last) message) (slice_get last i) there entered in
    let answers : e.granted ≡ outcome (take i last) e.moment e.ask = ap (λ (x : Entry). x.granted) same ∙ sym (ap (λ (x : Entry). outcome (take i last) x.moment x.ask) same) in
    let g = granted m side message last i e there (ap (λ (x : Entry). x.ask) same) answers s in
    record {
      at_entry = g;
      by_officers = λ least. by_officers words m h lines last text p g.giver g.given.entry g.grant.activity g.given.minutes least g.given.there g.given.asks;
    }
