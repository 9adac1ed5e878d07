-- Answering the messages held, one after another.
use Rattle.std.proofs.Common.{◌≡◌, ℕ, ◌+◌, ◌≤◌, List, [], ◌∷◌, ◌++◌, length, flat_map, refl, sym, ap, subst, ◌∙◌, append_assoc, append-nil, length-append, arith}
use Rattle.std.specs.List.{AllByRecursion}
use Rattle.std.proofs.lemmas.Grind.{flat_map-append}
use Rattle.hsm_frame.specs.Frames.{frame, IsMessage}
use Rattle.hsm_frame.specs.Calls.{Held}
use Rattle.hsm_auth.specs.declared.ledger.Ledger.{Ledger}
use Rattle.hsm_rows.specs.declared.settings.Module.{Module}
use Rattle.hsm_session.specs.Booking.{BooksAll, BooksSome}
use Rattle.hsm_session.specs.Lanes.{StopsDraining}
use Rattle.hsm_session.proofs.BookingLaws.{books_none, books_twice, some_more}

-- The first messages among the bytes held were taken and booked, and their answers were printed.
pub record Answers (m : Module) (lane moment : ℕ) (old new : Held) (was is : Ledger) (before after : List ℕ → Type 0) (answered : ℕ) : Type 0 where
  pub messages : List (List ℕ)
  pub split : old.bytes ≡ flat_map frame messages ++ new.bytes
  pub each : AllByRecursion (IsMessage old.least) messages
  pub least : new.least ≡ old.least
  pub booked : BooksAll m lane moment messages was is before after
  pub count : answered ≡ length messages
  pub spent : answered + length new.bytes ≤ length old.bytes

pub answers_none : (m : Module) (lane moment : ℕ) (old : Held) (was : Ledger) (before : List ℕ → Type 0) → Answers m lane moment old old was was before before 0
answers_none m lane moment old was before = record {
  messages = [];
  split = refl;
  each = tt;
  least = refl;
  booked = books_none m lane moment was before;
  count = refl;
  spent = omega arith;
}

-- a list of messages and one more
pub each_more : (least : ℕ) (messages : List (List ℕ)) (message : List ℕ) → AllByRecursion (IsMessage least) messages → IsMessage least message
    → AllByRecursion (IsMessage least) (messages ++ message ∷ [])
each_more least [] message each valid = (valid, tt)
each_more least (first ∷ messages) message each valid = (each.0, each_more least messages message each.1 valid)

pub each_append : (least : ℕ) (first second : List (List ℕ)) → AllByRecursion (IsMessage least) first → AllByRecursion (IsMessage least) second
    → AllByRecursion (IsMessage least) (first ++ second)
each_append least [] second a b = b
each_append least (message ∷ first) second a b = (a.0, each_append least first second a.1 b)

pub answers_more : (m : Module) (lane moment : ℕ) (old mid new : Held) (was between is : Ledger) (before now after : List ℕ → Type 0) (answered : ℕ) (message : List ℕ)
    → Answers m lane moment old mid was between before now answered
    → IsMessage mid.least message → mid.bytes ≡ frame message ++ new.bytes → new.least ≡ mid.least
    → BooksAll m lane moment (message ∷ []) between is now after
    → Answers m lane moment old new was is before after (answered + 1)
answers_more m lane moment old mid new was between is before now after answered message a valid split least booked = record {
  messages = a.messages ++ message ∷ [];
  split =
      a.split ∙ ap (λ (rest : List ℕ). flat_map frame a.messages ++ rest) split
      ∙ sym (append_assoc (flat_map frame a.messages) (frame message) new.bytes)
      ∙ ap (λ (front : List ℕ). front ++ new.bytes)
      (ap (λ (last : List ℕ). flat_map frame a.messages ++ last) (sym (append-nil (frame message))) ∙ sym (flat_map-append frame a.messages (message ∷ [])));
  each = each_more old.least a.messages message a.each (subst (λ (n : ℕ). IsMessage n message) a.least valid);
  least = least ∙ a.least;
  booked = books_twice m lane moment a.messages (message ∷ []) was between is before now after a.booked booked;
  count = omega (arith, a.count, length-append a.messages (message ∷ []));
  spent = omega (arith, a.spent, length-append (frame message) new.bytes, ap length split);
}

-- the answer to a message was not wholly written
pub stops_answering : (m : Module) (lane moment : ℕ) (old mid : Held) (left : List ℕ) (was between is : Ledger) (before now after : List ℕ → Type 0) (answered : ℕ) (message : List ℕ)
    → Answers m lane moment old mid was between before now answered
    → IsMessage mid.least message → mid.bytes ≡ frame message ++ left
    → BooksSome m lane moment (message ∷ []) between is now after
    → StopsDraining m lane moment old was is before after
stops_answering m lane moment old mid left was between is before now after answered message a valid split booked = record {
  messages = a.messages ++ message ∷ [];
  left = left;
  split =
      a.split ∙ ap (λ (rest : List ℕ). flat_map frame a.messages ++ rest) split
      ∙ sym (append_assoc (flat_map frame a.messages) (frame message) left)
      ∙ ap (λ (front : List ℕ). front ++ left)
      (ap (λ (last : List ℕ). flat_map frame a.messages ++ last) (sym (append-nil (frame message))) ∙ sym (flat_map-append frame a.messages (message ∷ [])));
  each = each_more old.least a.messages message a.each (subst (λ (n : ℕ). IsMessage n message) a.least valid);
  booked = some_more m lane moment a.messages (message ∷ []) was between is before now after a.booked booked;
}
