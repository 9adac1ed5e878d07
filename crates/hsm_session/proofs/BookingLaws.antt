-- Messages that are booked one after another.
use Rattle.std.proofs.Common.{refl, suc, ◌≡◌, length, ℕ, List, [], ◌∷◌, ◌++◌, sym, ap, subst, ◌∙◌, append_assoc, append-nil, Result, Ok, Err}
use Rattle.std.specs.Result.{OnErr, OnOk}
use Rattle.hsm_auth.specs.declared.entry.Ask.{Ask}
use Rattle.hsm_auth.specs.declared.entry.Entry.{Entry}
use Rattle.hsm_auth.specs.declared.entry.Granted.{Granted}
use Rattle.hsm_auth.specs.declared.ledger.Ledger.{Ledger}
use Rattle.hsm_auth.specs.History.{entry, outcome, IsKnown, IsLegal, StandsFor}
use Rattle.hsm_rows.specs.declared.settings.Module.{Module}
use Rattle.hsm_answers.specs.Messages.{message_ask, message_answer}
use Rattle.hsm_auth.specs.declared.activity.Place.{Place}
use Rattle.hsm_auth.specs.declared.activity.Place.TheVariants.{Host}
use Rattle.hsm_io.specs.Texts.{Appends, AppendsFront}
use Rattle.hsm_io.proofs.TextLemmas.{appends_then_front, appends_twice, front_of_more}
use Rattle.hsm_session.specs.Booking.{entry_of, entries_of, answer_lines, reply_line, reply_of, IsAnswered, IsBooked, BooksAll, BooksFront, BooksSome}

-- one more entry and those after it
after_one : (h : List Entry) (e : Entry) (more : List Entry) → (h ++ e ∷ []) ++ more ≡ h ++ e ∷ more
after_one h e more = append_assoc h (e ∷ []) more

pub entries_twice : (m : Module) (moment : ℕ) (h : List Entry) (first second : List (List ℕ))
    → entries_of m moment h (first ++ second) ≡ entries_of m moment h first ++ entries_of m moment (h ++ entries_of m moment h first) second
entries_twice m moment h [] second = ap (λ (g : List Entry). entries_of m moment g second) (sym (append-nil h))
entries_twice m moment h (message ∷ first) second =
    let e = entry_of m Host moment h message in
    let next = h ++ e ∷ [] in
    ap (λ (es : List Entry). e ∷ es)
    (entries_twice m moment next first second
    ∙ ap (λ (g : List Entry). entries_of m moment next first ++ entries_of m moment g second) (after_one h e (entries_of m moment next first)))

-- one entry for each message
pub length-entries : (m : Module) (moment : ℕ) (h : List Entry) (messages : List (List ℕ)) → length (entries_of m moment h messages) ≡ length messages
length-entries m moment h [] = refl
length-entries m moment h (message ∷ messages) = ap (λ (n : ℕ). suc n) (length-entries m moment (h ++ entry_of m Host moment h message ∷ []) messages)

pub lines_twice : (m : Module) (lane moment : ℕ) (h : List Entry) (first second : List (List ℕ))
    → answer_lines m lane moment h (first ++ second) ≡ answer_lines m lane moment h first ++ answer_lines m lane moment (h ++ entries_of m moment h first) second
lines_twice m lane moment h [] second = ap (λ (g : List Entry). answer_lines m lane moment g second) (sym (append-nil h))
lines_twice m lane moment h (message ∷ first) second =
    let e = entry_of m Host moment h message in
    let next = h ++ e ∷ [] in
    let line = reply_line lane (reply_of m Host moment h message) in
    ap (λ (text : List ℕ). line ++ text)
    (lines_twice m lane moment next first second
    ∙ ap (λ (g : List Entry). answer_lines m lane moment next first ++ answer_lines m lane moment g second) (after_one h e (entries_of m moment next first)))
    ∙ sym (append_assoc line (answer_lines m lane moment next first) (answer_lines m lane moment (h ++ e ∷ entries_of m moment next first) second))

-- nothing was booked and written
pub books_nothing : (h : List Entry) (ledger : Ledger) (before : List ℕ → Type 0) → StandsFor ledger h → IsBooked h [] [] ledger before before
books_nothing h ledger before stands = record {
  stands = subst (StandsFor ledger) (sym (append-nil h)) stands;
  legal = λ legal. subst IsLegal (sym (append-nil h)) legal;
  printed = λ base b. subst before (sym (append-nil base)) b;
}

-- some entries and others after them
pub books_both : (h first second : List Entry) (a b : List ℕ) (mid new : Ledger) (before between after : List ℕ → Type 0)
    → IsBooked h first a mid before between → IsBooked (h ++ first) second b new between after → IsBooked h (first ++ second) (a ++ b) new before after
books_both h first second a b mid new before between after one two =
    let whole : (h ++ first) ++ second ≡ h ++ (first ++ second) = append_assoc h first second in
    record {
      stands = subst (StandsFor new) whole two.stands;
      legal = λ legal. subst IsLegal whole (two.legal (one.legal legal));
      printed = appends_twice before between after a b one.printed two.printed;
    }

-- the same entries and the same text by other names
pub books_same : (h more others : List Entry) (text other : List ℕ) (ledger : Ledger) (before after : List ℕ → Type 0)
    → more ≡ others → text ≡ other → IsBooked h more text ledger before after → IsBooked h others other ledger before after
books_same h more others text other ledger before after entries texts books =
    subst (λ (es : List Entry). IsBooked h es other ledger before after) entries
    (subst (λ (t : List ℕ). IsBooked h more t ledger before after) texts books)

-- no message
pub books_none : (m : Module) (lane moment : ℕ) (ledger : Ledger) (before : List ℕ → Type 0) → BooksAll m lane moment [] ledger ledger before before
books_none m lane moment ledger before = λ h stands. books_nothing h ledger before stands

-- some messages and others after them
pub books_twice : (m : Module) (lane moment : ℕ) (first second : List (List ℕ)) (old mid new : Ledger) (before between after : List ℕ → Type 0)
    → BooksAll m lane moment first old mid before between → BooksAll m lane moment second mid new between after
    → BooksAll m lane moment (first ++ second) old new before after
books_twice m lane moment first second old mid new before between after a b = λ h stands.
    let one = a h stands in
    let two = b (h ++ entries_of m moment h first) one.stands in
    books_same h _ _ _ _ new before after (sym (entries_twice m moment h first second)) (sym (lines_twice m lane moment h first second))
    (books_both h (entries_of m moment h first) (entries_of m moment (h ++ entries_of m moment h first) second) (answer_lines m lane moment h first)
    (answer_lines m lane moment (h ++ entries_of m moment h first) second) mid new before between after one two)

-- a ledger that stood for some history stands for one after it
pub still_known : (m : Module) (lane moment : ℕ) (messages : List (List ℕ)) (old new : Ledger) (before after : List ℕ → Type 0)
    → BooksAll m lane moment messages old new before after → IsKnown old → IsKnown new
still_known m lane moment messages old new before after books known = (known.0 ++ entries_of m moment known.0 messages, (books known.0 known.1).stands)

-- a message is booked by a step of the ledger
pub answered : (m : Module) (side : Place) (moment : ℕ) (message reply : List ℕ) (ask : Ask) (granted : Granted) (old new : Ledger)
    → ask ≡ message_ask m side message
    → ((h : List Entry) → StandsFor old h → granted ≡ outcome h moment ask)
    → ((h : List Entry) (pass : ℕ) → StandsFor old h → StandsFor new (h ++ entry pass moment ask granted ∷ []))
    → ((h : List Entry) (pass : ℕ) → StandsFor old h → IsLegal h → IsLegal (h ++ entry pass moment ask granted ∷ []))
    → reply ≡ message_answer m side message granted
    → (h : List Entry) → StandsFor old h → IsAnswered m side moment message old new reply h
answered m side moment message reply ask granted old new asks answers stands legal is = λ h at.
    let same : entry 0 moment ask granted ≡ entry_of m side moment h message =
    ap (λ (g : Granted). entry 0 moment ask g) (answers h at) ∙ ap (λ (a : Ask). entry 0 moment a (outcome h moment a)) asks in
    record {
      stands = subst (λ (e : Entry). StandsFor new (h ++ e ∷ [])) same (stands h 0 at);
      legal = λ was. subst (λ (e : Entry). IsLegal (h ++ e ∷ [])) same (legal h 0 at was);
      reply = is ∙ ap (λ (e : Entry). message_answer m side message e.granted) same;
    }

-- a message that was booked, and a text that was written
pub books_message : (m : Module) (side : Place) (moment : ℕ) (message reply text : List ℕ) (line : List ℕ → List ℕ) (old new : Ledger) (before after : List ℕ → Type 0) (h : List Entry)
    → IsAnswered m side moment message old new reply h → text ≡ line reply → Appends before after text
    → IsBooked h (entry_of m side moment h message ∷ []) (line (reply_of m side moment h message)) new before after
books_message m side moment message reply text line old new before after h a is printed = record {
  stands = a.stands;
  legal = a.legal;
  printed = subst (Appends before after) (is ∙ ap line a.reply) printed;
}

-- a host's message is booked, and its answer is printed
pub books_one : (m : Module) (lane moment : ℕ) (message reply text : List ℕ) (old new : Ledger) (before after : List ℕ → Type 0)
    → ((h : List Entry) → StandsFor old h → IsAnswered m Host moment message old new reply h)
    → text ≡ reply_line lane reply → Appends before after text
    → BooksAll m lane moment (message ∷ []) old new before after
books_one m lane moment message reply text old new before after answers is printed = λ h at.
    let line = reply_line lane (reply_of m Host moment h message) in
    books_same h _ _ line (answer_lines m lane moment h (message ∷ [])) new before after refl (sym (append-nil line))
    (books_message m Host moment message reply text (reply_line lane) old new before after h (answers h at) is printed)

-- what follows from what a good result promises
pub on_ok : {A E : Type 0} (r : Result A E) (P Q : Type 0) → OnOk r P → (P → Q) → OnOk r Q
on_ok (Ok x) P Q holds next = next holds
on_ok (Err e) P Q holds next = tt

-- what follows from what a bad result promises
pub on_err : {A E : Type 0} (r : Result A E) (P Q : Type 0) → OnErr r P → (P → Q) → OnErr r Q
on_err (Ok x) P Q holds next = tt
on_err (Err e) P Q holds next = next holds

-- what a bad result promises
pub for_err : {A E : Type 0} (r : Result A E) (P : Type 0) → P → OnErr r P
for_err (Ok x) P holds = tt
for_err (Err e) P holds = holds

-- ---- where a write failed

-- the same entries and the same text by other names
pub front_same : (h more others : List Entry) (text other : List ℕ) (ledger : Ledger) (before after : List ℕ → Type 0)
    → more ≡ others → text ≡ other → BooksFront h more text ledger before after → BooksFront h others other ledger before after
front_same h more others text other ledger before after entries texts books =
    subst (λ (es : List Entry). BooksFront h es other ledger before after) entries
    (subst (λ (t : List ℕ). BooksFront h more t ledger before after) texts books)

-- some entries, and then others from the front
pub front_both : (h first second : List Entry) (a b : List ℕ) (mid new : Ledger) (before between after : List ℕ → Type 0)
    → IsBooked h first a mid before between → BooksFront (h ++ first) second b new between after → BooksFront h (first ++ second) (a ++ b) new before after
front_both h first second a b mid new before between after one two =
    let whole : (h ++ first) ++ two.booked ≡ h ++ (first ++ two.booked) = append_assoc h first two.booked in
    record {
      booked = first ++ two.booked;
      missing = two.missing;
      begins = ap (λ (es : List Entry). first ++ es) two.begins ∙ sym (append_assoc first two.booked two.missing);
      stands = subst (StandsFor new) whole two.stands;
      legal = λ legal. subst IsLegal whole (two.legal (one.legal legal));
      printed = appends_then_front before between after a b one.printed two.printed;
    }

-- from the front of more entries and more text
pub front_longer : (h more others : List Entry) (text rest : List ℕ) (ledger : Ledger) (before after : List ℕ → Type 0)
    → BooksFront h more text ledger before after → BooksFront h (more ++ others) (text ++ rest) ledger before after
front_longer h more others text rest ledger before after b = record {
  booked = b.booked;
  missing = b.missing ++ others;
  begins = ap (λ (es : List Entry). es ++ others) b.begins ∙ append_assoc b.booked b.missing others;
  stands = b.stands;
  legal = b.legal;
  printed = front_of_more before after text rest b.printed;
}

-- from the front of more text
pub front_text : (h more : List Entry) (text rest : List ℕ) (ledger : Ledger) (before after : List ℕ → Type 0)
    → BooksFront h more text ledger before after → BooksFront h more (text ++ rest) ledger before after
front_text h more text rest ledger before after b = record {
  booked = b.booked;
  missing = b.missing;
  begins = b.begins;
  stands = b.stands;
  legal = b.legal;
  printed = front_of_more before after text rest b.printed;
}

-- all entries, and of the text that follows theirs a part from the front
pub front_after : (h more : List Entry) (text next : List ℕ) (ledger : Ledger) (before between after : List ℕ → Type 0)
    → IsBooked h more text ledger before between → AppendsFront between after next → BooksFront h more (text ++ next) ledger before after
front_after h more text next ledger before between after b printed = record {
  booked = more;
  missing = [];
  begins = sym (append-nil more);
  stands = b.stands;
  legal = b.legal;
  printed = appends_then_front before between after text next b.printed printed;
}

-- a message that was booked, and a part of a text that was written
pub front_message : (m : Module) (side : Place) (moment : ℕ) (message reply text : List ℕ) (line : List ℕ → List ℕ) (old new : Ledger) (before after : List ℕ → Type 0) (h : List Entry)
    → IsAnswered m side moment message old new reply h → text ≡ line reply → AppendsFront before after text
    → BooksFront h (entry_of m side moment h message ∷ []) (line (reply_of m side moment h message)) new before after
front_message m side moment message reply text line old new before after h a is printed = record {
  booked = entry_of m side moment h message ∷ [];
  missing = [];
  begins = refl;
  stands = a.stands;
  legal = a.legal;
  printed = subst (AppendsFront before after) (is ∙ ap line a.reply) printed;
}

-- a host's message is booked, and a part of its answer is printed
pub some_one : (m : Module) (lane moment : ℕ) (message reply text : List ℕ) (old new : Ledger) (before after : List ℕ → Type 0)
    → ((h : List Entry) → StandsFor old h → IsAnswered m Host moment message old new reply h)
    → text ≡ reply_line lane reply → AppendsFront before after text
    → BooksSome m lane moment (message ∷ []) old new before after
some_one m lane moment message reply text old new before after answers is printed = λ h at.
    let line = reply_line lane (reply_of m Host moment h message) in
    front_same h _ _ line (answer_lines m lane moment h (message ∷ [])) new before after refl (sym (append-nil line))
    (front_message m Host moment message reply text (reply_line lane) old new before after h (answers h at) is printed)

-- messages, and then others from the front
pub some_more : (m : Module) (lane moment : ℕ) (first second : List (List ℕ)) (old mid new : Ledger) (before between after : List ℕ → Type 0)
    → BooksAll m lane moment first old mid before between → BooksSome m lane moment second mid new between after
    → BooksSome m lane moment (first ++ second) old new before after
some_more m lane moment first second old mid new before between after a b = λ h stands.
    let one = a h stands in
    let two = b (h ++ entries_of m moment h first) one.stands in
    front_same h _ _ _ _ new before after (sym (entries_twice m moment h first second)) (sym (lines_twice m lane moment h first second))
    (front_both h (entries_of m moment h first) (entries_of m moment (h ++ entries_of m moment h first) second) (answer_lines m lane moment h first)
    (answer_lines m lane moment (h ++ entries_of m moment h first) second) mid new before between after one two)

-- from the front of more messages
pub some_longer : (m : Module) (lane moment : ℕ) (first others : List (List ℕ)) (old new : Ledger) (before after : List ℕ → Type 0)
    → BooksSome m lane moment first old new before after → BooksSome m lane moment (first ++ others) old new before after
some_longer m lane moment first others old new before after a = λ h stands.
    front_same h _ _ _ _ new before after (sym (entries_twice m moment h first others)) (sym (lines_twice m lane moment h first others))
    (front_longer h (entries_of m moment h first) (entries_of m moment (h ++ entries_of m moment h first) others) (answer_lines m lane moment h first)
    (answer_lines m lane moment (h ++ entries_of m moment h first) others) new before after (a h stands))
