-- Where the live grants of a history come from.
use Rattle.std.specs.Prelude.{◌≡◌, ℕ, suc, false, true, List, take, drop, slice_get, Some}
use Rattle.hsm_auth.specs.declared.entry.Grant.{Grant}
use Rattle.hsm_auth.specs.declared.entry.Ask.TheVariants.{Authorise}
use Rattle.hsm_auth.specs.declared.entry.Granted.TheVariants.{Authorised}
use Rattle.hsm_auth.specs.declared.entry.Entry.{Entry}
use Rattle.hsm_auth.specs.History.{now, end_of, is_ended, lasts}

-- the entry at the place i authorised the grant's activity for so many minutes, and no later entry ends it
pub record GivenAt (h : List Entry) (i : ℕ) (g : Grant) : Type 0 where
  pub entry : Entry
  pub there : slice_get h i ≡ Some entry
  pub minutes : ℕ
  pub ask : entry.ask ≡ Authorise g.activity minutes
  pub granted : entry.granted ≡ Authorised
  pub end : g.end ≡ end_of (now (take i h) entry.moment) minutes
  pub unended : is_ended g.activity (drop (suc i) h) ≡ false

-- some entry gave the grant, no later one ends it, and it lasts at the moment m
abbrev pub IsLive : List Entry → ℕ → Grant → Type 0
IsLive h m g = ((i : ℕ) × GivenAt h i g) × (lasts (now h m) g ≡ true)
