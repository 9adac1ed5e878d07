-- What holds of each lane by its place.
use Rattle.std.proofs.Common.{◌≡◌, ◌≢◌, ℕ, zero, suc, List, [], ◌∷◌, ◌++◌, length, set, slice_get, Some, subst}
use Rattle.hsm_session.specs.declared.lane.ScriptLane.{ScriptLane}

-- one more lane at the end
pub each_pushed : (P : ℕ → ScriptLane → Type 0) (lanes : List ScriptLane) (last : ScriptLane)
    → ((i : ℕ) (lane : ScriptLane) → slice_get lanes i ≡ Some lane → P i lane) → P (length lanes) last
    → (i : ℕ) (lane : ScriptLane) → slice_get (lanes ++ last ∷ []) i ≡ Some lane → P i lane
each_pushed P [] last each here zero lane at = let same : last ≡ lane = cc in subst (P 0) same here
each_pushed P [] last each here (suc i) lane at = absurd (cc)
each_pushed P (first ∷ lanes) last each here zero lane at = each 0 lane at
each_pushed P (first ∷ lanes) last each here (suc i) lane at =
    each_pushed (λ (k : ℕ) (l : ScriptLane). P (suc k) l) lanes last (λ k l is. each (suc k) l is) here i lane at

-- another lane at one place
pub each_set : (P Q : ℕ → ScriptLane → Type 0) (lanes : List ScriptLane) (place : ℕ) (new : ScriptLane)
    → ((i : ℕ) (lane : ScriptLane) → slice_get lanes i ≡ Some lane → P i lane) → ((i : ℕ) (lane : ScriptLane) → i ≢ place → P i lane → Q i lane) → Q place new
    → (i : ℕ) (lane : ScriptLane) → slice_get (set lanes place new) i ≡ Some lane → Q i lane
each_set P Q [] place new each other here i lane at = absurd (cc)
each_set P Q (first ∷ lanes) zero new each other here zero lane at = let same : new ≡ lane = cc in subst (Q 0) same here
each_set P Q (first ∷ lanes) zero new each other here (suc i) lane at = other (suc i) lane (λ e. absurd (cc)) (each (suc i) lane at)
each_set P Q (first ∷ lanes) (suc place) new each other here zero lane at = other 0 lane (λ e. absurd (cc)) (each 0 lane at)
each_set P Q (first ∷ lanes) (suc place) new each other here (suc i) lane at =
    each_set (λ (k : ℕ) (l : ScriptLane). P (suc k) l) (λ (k : ℕ) (l : ScriptLane). Q (suc k) l) lanes place new (λ k l is. each (suc k) l is)
    (λ k l differs. other (suc k) l (λ e. differs (cc))) here i lane at
