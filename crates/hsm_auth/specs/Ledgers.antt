-- A ledger as contracts see it.
use Rattle.std.specs.Prelude.{ℕ, List}
use Rattle.hsm_auth.specs.declared.entry.Grant.{Grant}
use Rattle.hsm_auth.specs.declared.entry.Note.{Note}

-- the latest moment, the live grants, the place of the next random word, the number of entries modulo 2 ^ 63, and the last notes
pub record LedgerView : Type 0 where
  pub moment : ℕ
  pub grants : List Grant
  pub place : ℕ
  pub number : ℕ
  pub notes : List Note
