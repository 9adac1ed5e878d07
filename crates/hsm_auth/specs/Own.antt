-- The entries of one pass, with their places in the history.
use Rattle.std.specs.Prelude.{◌≡◌, ℕ, zero, suc, ◌+◌, ◌<◌, Bool, ◌==◌, List, length, filter, slice_get, Some}
use Rattle.std.specs.List.{enumerate_from}
use Rattle.hsm_auth.specs.declared.entry.Entry.{Entry}

-- whether the entry of this place was made by the pass of this number
abbrev pub is_own : ℕ → ℕ × Entry → Bool
is_own number placed = placed.1.pass == number

-- by place, the entries that the pass of this number made, each with its place
abbrev pub own : ℕ → List Entry → List (ℕ × Entry)
own number h = filter (is_own number) (enumerate_from 0 h)

-- the entries of the passes of the numbers 0 to k - 1, counted pass by pass
abbrev pub own_total : ℕ → List Entry → ℕ
own_total zero h = 0
own_total (suc k) h = own_total k h + length (own k h)

-- each entry was made by a pass of a number below k
abbrev pub MadeBelow : ℕ → List Entry → Type 0
MadeBelow k h = (i : ℕ) (e : Entry) → slice_get h i ≡ Some e → e.pass < k
