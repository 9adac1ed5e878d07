-- What contracts see of a ledger's state, and the parts of its step.
use Rattle.std.specs.Prelude.{◌≡◌, ℕ, ◌+◌, ◌%◌, ◌^◌, max, Bool, true, false, not, [], ◌∷◌, ◌++◌, filter, Option, Some, None}
use Rattle.circular_buffer.specs.Buffer.{keep_last}
use Rattle.hsm_auth.specs.declared.entry.Grant.{Grant}
use Rattle.hsm_auth.specs.declared.entry.Ask.{Ask}
use Rattle.hsm_auth.specs.declared.entry.Ask.TheVariants.{Use, Authorise, Cancel, CancelAll, Look, Recent}
use Rattle.hsm_auth.specs.declared.entry.Kind.{Kind}
use Rattle.hsm_auth.specs.declared.entry.Granted.{Granted}
use Rattle.hsm_auth.specs.declared.entry.Granted.TheVariants as granted
use Rattle.hsm_auth.specs.declared.state.State.{State}
use Rattle.hsm_auth.specs.Ledgers.{LedgerView}
use Rattle.hsm_auth.specs.History.{answer_from, lasts, ends, given, words_of}

-- a state as contracts see it
abbrev pub view_of : State → LedgerView
view_of s = record { moment = s.moment; grants = s.grants.items; place = s.place; number = s.number; notes = s.notes.items }

-- the moment is come, and the grants whose end is come are gone
pub record ComesTo (m : ℕ) (was new : State) : Type 0 where
  pub moment : new.moment ≡ max was.moment m
  pub grants : new.grants.items ≡ filter (lasts (max was.moment m)) was.grants.items
  pub place : new.place ≡ was.place
  pub number : new.number ≡ was.number
  pub notes : new.notes.items ≡ was.notes.items

-- the ask is answered, and the grants and the random place are what they are after it
pub record Answers (ask : Ask) (answer : Granted) (was new : State) : Type 0 where
  pub answered : answer ≡ answer_from was.moment was.place was.grants.items was.notes.items ask
  pub moment : new.moment ≡ was.moment
  pub grants : new.grants.items ≡ filter (λ (g : Grant). not (ends ask answer g.activity)) was.grants.items ++ given was.moment ask answer
  pub place : new.place ≡ (was.place + words_of ask answer) % 2 ^ 63
  pub number : new.number ≡ was.number
  pub notes : new.notes.items ≡ was.notes.items

-- the answer to `Use`, by the place at which its words begin
abbrev pub drawn_answer : Option ℕ → Granted
drawn_answer None = granted.Refused
drawn_answer (Some first) = granted.Use first

-- whether the ask is `Use`
abbrev pub is_use_ask : Ask → Bool
is_use_ask (Use needs words) = true
is_use_ask (Authorise activity minutes) = false
is_use_ask (Cancel activity) = false
is_use_ask CancelAll = false
is_use_ask Look = false
is_use_ask Recent = false

-- the note of this kind is made, and the number grows
pub record Notes (kind : Kind) (good : Bool) (was new : State) : Type 0 where
  pub moment : new.moment ≡ was.moment
  pub grants : new.grants.items ≡ was.grants.items
  pub place : new.place ≡ was.place
  pub number : new.number ≡ (was.number + 1) % 2 ^ 63
  pub notes : new.notes.items ≡ keep_last 16 (was.notes.items ++ record { number = was.number; moment = was.moment; kind = kind; good = good } ∷ [])
