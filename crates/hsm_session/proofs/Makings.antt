-- The entries of a pass, one after another.
use Rattle.std.proofs.Common.{◌≡◌, ℕ, zero, suc, ◌<◌, ◌≤◌, ◌⊎◌, false, List, [], ◌∷◌, ◌++◌, length, slice_get, Option, Some, None, refl, sym, ap, subst, ◌∙◌, inl, inr, append_assoc, append-nil, arith}
use Rattle.std.specs.List.{AllZip}
use Rattle.std.proofs.lemmas.Bool.{cases_lt}
use Rattle.circular_buffer.proofs.Places.{slice_get-append_left}
use Rattle.hsm_auth.specs.declared.activity.Activity.{Activity}
use Rattle.hsm_auth.specs.declared.entry.Ask.{Ask}
use Rattle.hsm_auth.specs.declared.entry.Ask.TheVariants.{Use, Authorise, Cancel, CancelAll, Look, Recent}
use Rattle.hsm_auth.specs.declared.entry.Granted.{Granted}
use Rattle.hsm_auth.specs.declared.entry.Entry.{Entry}
use Rattle.hsm_auth.specs.History.{entry}
use Rattle.hsm_auth.specs.Own.{own}
use Rattle.hsm_desk.specs.Kin.{Spans, first_pair}
use Rattle.hsm_desk.specs.Passes.{PassView, Books, Makes, OwnBooked, Sound, number}
use Rattle.hsm_answers.specs.Clear.{Authorises}
use Rattle.hsm_answers.specs.Messages.{message_ask}
use Rattle.hsm_io.specs.Moments.{tick, after_now, after_calls}
use Rattle.hsm_rows.specs.declared.settings.Module.{Module}
use Rattle.hsm_auth.specs.declared.activity.Place.{Place}
use Rattle.hsm_auth.specs.declared.activity.Place.TheVariants.{Host}
use Rattle.hsm_session.specs.declared.serving.Count.{Count}
use Rattle.hsm_session.specs.Connections.{AskClock, AuthoriseNothing, first_place, last_place, last_moment, asks_authorisation}
use Rattle.hsm_session.specs.Serving.{Counts, kept_first, one_more, no_entry}

-- what holds at each place of a list, and of one more item
pub get_push : {A : Type 0} (P : ℕ → A → Type 0) (xs : List A) (x : A) → ((i : ℕ) (a : A) → slice_get xs i ≡ Some a → P i a) → P (length xs) x
    → (i : ℕ) (a : A) → slice_get (xs ++ x ∷ []) i ≡ Some a → P i a
get_push P [] x all here zero a at = let e : x ≡ a = cc in subst (P zero) e here
get_push P [] x all here (suc i) a at = absurd (cc)
get_push P (y ∷ xs) x all here zero a at = all zero a at
get_push P (y ∷ xs) x all here (suc i) a at = get_push (λ j b. P (suc j) b) xs x (λ j b there. all (suc j) b there) here i a at

-- one more item in each of two lists
pub zip_push : {A B : Type 0} (R : A → B → Type 0) (xs : List A) (ys : List B) (x : A) (y : B) → AllZip R xs ys → R x y → AllZip R (xs ++ x ∷ []) (ys ++ y ∷ [])
zip_push R [] [] x y all here = (here, tt)
zip_push R [] (b ∷ ys) x y all here = absurd all
zip_push R (a ∷ xs) [] x y all here = absurd all
zip_push R (a ∷ xs) (b ∷ ys) x y all here = (all.0, zip_push R xs ys x y all.1 here)

-- no entry was made yet
pub makes_none : (p : PassView) → Sound p → Makes p p []
makes_none p sound = record {
  desk = refl;
  kin = refl;
  begins = ([], append-nil p.seen);
  own = sym (append-nil (own (number p) p.seen));
  apart = λ k e past at. absurd (past_end p.seen k e past at);
  sound = sound;
}
  where
    past_end : (xs : List Entry) (k : ℕ) (e : Entry) → length xs ≤ k → slice_get xs k ≡ Some e → ⊥
    past_end [] k e past at = cc
    past_end (x ∷ xs) zero e past at = omega (arith, past)
    past_end (x ∷ xs) (suc k) e past at = past_end xs k e (omega (arith, past)) at

-- the entry of a booking
abbrev pub booked_entry : PassView → ℕ → Ask → Granted → ℕ → ℕ × Entry
booked_entry p moment ask granted place = (place, entry (number p) moment ask granted)

-- by the place, before or from it on
by_place : {P : Type 0} (i n : ℕ) → (i < n → P) → (n ≤ i → P) → (i < n) ⊎ (n ≤ i) → P
by_place i n p q (inl less) = p less
by_place i n p q (inr more) = q more

-- one more entry
pub makes_more : (start p q : PassView) (entries : List (ℕ × Entry)) (moment : ℕ) (ask : Ask) (granted : Granted) (place : ℕ)
    → Makes start p entries → Books p q moment ask granted place → OwnBooked p q moment ask granted place → Sound q
    → Makes start q (entries ++ booked_entry p moment ask granted place ∷ [])
makes_more start p q entries moment ask granted place m b own_more sound =
    let same : number p ≡ number start = ap (λ (kin : List (ℕ × ℕ)). (first_pair kin).0) m.kin in
    let new : ℕ × Entry = booked_entry p moment ask granted place in
    let before : List Entry = p.seen ++ b.others in
    let Apart : ℕ → Entry → Type 0 = λ k e. length start.seen ≤ k → (j : ℕ) (pair : ℕ × ℕ) → slice_get start.kin j ≡ Some pair → Spans pair e.pass → e.pass ≡ number start in
    let earlier : (k : ℕ) (e : Entry) → slice_get before k ≡ Some e → Apart k e = λ k e at past j pair there covers.
    by_place k (length p.seen)
    (λ less. m.apart k e past (sym (slice_get-append_left p.seen b.others k less) ∙ at) j pair there covers)
    (λ more. absurd (b.apart.apart k e more at j pair (ap (λ (kin : List (ℕ × ℕ)). slice_get kin j) m.kin ∙ there) covers))
    (cases_lt k (length p.seen)) in
    let all : (k : ℕ) (e : Entry) → slice_get (before ++ new.1 ∷ []) k ≡ Some e → Apart k e = get_push Apart before new.1 earlier (λ past j pair there covers. same) in
    record {
      desk = b.desk ∙ m.desk;
      kin = b.kin ∙ m.kin;
      begins = (
        m.begins.0 ++ (b.others ++ new.1 ∷ []),
        sym (append_assoc start.seen m.begins.0 (b.others ++ new.1 ∷ []))
            ∙ ap (λ (front : List Entry). front ++ (b.others ++ new.1 ∷ [])) m.begins.1
            ∙ sym (append_assoc p.seen b.others (new.1 ∷ []))
            ∙ sym b.seen,
      );
      own =
          ap (λ (n : ℕ). own n q.seen) (sym same)
          ∙ own_more
          ∙ ap (λ (n : ℕ). own n p.seen ++ new ∷ []) same
          ∙ ap (λ (front : List (ℕ × Entry)). front ++ new ∷ []) m.own
          ∙ append_assoc (own (number start) start.seen) entries (new ∷ []);
      apart = λ k e past at j pair there covers. all k e (ap (λ (h : List Entry). slice_get h k) (sym b.seen) ∙ at) past j pair there covers;
      sound = sound;
    }

-- the moment of the last entry
last_moment_push : (moment : ℕ) (entries : List (ℕ × Entry)) (placed : ℕ × Entry) → last_moment moment (entries ++ placed ∷ []) ≡ placed.1.moment
last_moment_push moment [] placed = refl
last_moment_push moment (e ∷ entries) placed = last_moment_push e.1.moment entries placed

tick_later : (moments : List ℕ) (i : ℕ) → tick (after_now moments) i ≡ tick moments (suc i)
tick_later [] i = refl
tick_later (m ∷ []) i = refl
tick_later (m ∷ n ∷ ms) i = refl

tick_after : (n : ℕ) (moments : List ℕ) → tick (after_calls n moments) 0 ≡ tick moments n
tick_after zero moments = refl
tick_after (suc n) moments = tick_after n (after_now moments) ∙ tick_later moments n

one_more_call : (n : ℕ) (moments : List ℕ) → after_now (after_calls n moments) ≡ after_calls (suc n) moments
one_more_call zero moments = refl
one_more_call (suc n) moments = one_more_call n (after_now moments)

pub length_push : {A : Type 0} (xs : List A) (x : A) → suc (length xs) ≡ length (xs ++ x ∷ [])
length_push [] x = refl
length_push (y ∷ xs) x = ap suc (length_push xs x)

pub clock_none : (last : ℕ) (moments : Option (List ℕ)) → AskClock last last moments moments []
clock_none last moments = record { last = refl; told = λ c is. (λ i placed at. absurd (cc), is) }

-- one more entry, for which the clock was asked once
pub clock_more : (start last now : ℕ) (before between after : Option (List ℕ)) (entries : List (ℕ × Entry)) (placed : ℕ × Entry)
    → AskClock start last before between entries → placed.1.moment ≡ now
    → ((c : List ℕ) → between ≡ Some c → (now ≡ tick c 0) × (after ≡ Some (after_now c)))
    → AskClock start now before after (entries ++ placed ∷ [])
clock_more start last now before between after entries placed a is asked = record {
  last = sym is ∙ sym (last_moment_push start entries placed);
  told = λ c given.
      let t = a.told c given in
      let n = length entries in
      let next = asked (after_calls n c) t.1 in
      let moment : placed.1.moment ≡ tick c n = is ∙ next.0 ∙ tick_after n c in (
        get_push (λ i (p : ℕ × Entry). p.1.moment ≡ tick c i) entries placed t.0 moment,
        next.1 ∙ ap (λ (ms : List ℕ). Some ms) (one_more_call n c ∙ ap (λ (k : ℕ). after_calls k c) (length_push entries placed)),
      );
}

first_push : (entries : List (ℕ × Entry)) (placed : ℕ × Entry) → kept_first (first_place entries) placed.0 ≡ first_place (entries ++ placed ∷ [])
first_push [] placed = refl
first_push (e ∷ entries) placed = refl

last_push : (place : Option ℕ) (entries : List (ℕ × Entry)) (placed : ℕ × Entry) → Some placed.0 ≡ last_place place (entries ++ placed ∷ [])
last_push place [] placed = refl
last_push place (e ∷ entries) placed = last_push (Some e.0) entries placed

pub counts_none : Counts no_entry []
counts_none = record { messages = refl; first = refl; last = refl }

pub counts_more : (count : Count) (entries : List (ℕ × Entry)) (placed : ℕ × Entry) → Counts count entries → Counts (one_more count placed.0) (entries ++ placed ∷ [])
counts_more count entries placed c = record {
  messages = omega (arith, c.messages, length_push entries placed);
  first = ap (λ (o : Option ℕ). kept_first o placed.0) c.first ∙ first_push entries placed;
  last = last_push None entries placed;
}

-- a host's message asks for no authorisation
abbrev pub WordsAuthorise : Type 0
WordsAuthorise = (m : Module) (side : Place) (message : List ℕ) (activity : Activity) (minutes : ℕ)
    → message_ask m side message ≡ Authorise activity minutes → Authorises m side message activity minutes

no_words : (m : Module) (message : List ℕ) → WordsAuthorise → (ask : Ask) → message_ask m Host message ≡ ask → asks_authorisation ask ≡ false
no_words m message words (Use needs drawn) is = refl
no_words m message words (Authorise activity minutes) is = let a = (words m Host message activity minutes is).of_console in absurd (cc)
no_words m message words (Cancel activity) is = refl
no_words m message words CancelAll is = refl
no_words m message words Look is = refl
no_words m message words Recent is = refl

pub hosts_none : AuthoriseNothing []
hosts_none = λ i placed at. absurd (cc)

pub hosts_more : (m : Module) (kind : Place) (message : List ℕ) (entries : List (ℕ × Entry)) (placed : ℕ × Entry) → WordsAuthorise
    → placed.1.ask ≡ message_ask m kind message → (kind ≡ Host → AuthoriseNothing entries) → kind ≡ Host → AuthoriseNothing (entries ++ placed ∷ [])
hosts_more m kind message entries placed words asked before is =
    let of_host : message_ask m Host message ≡ placed.1.ask = ap (λ (k : Place). message_ask m k message) (sym is) ∙ sym asked in
    get_push (λ i (p : ℕ × Entry). asks_authorisation p.1.ask ≡ false) entries placed (before is) (no_words m message words placed.1.ask of_host)
