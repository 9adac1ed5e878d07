-- The steps at the seats that the code has.
use Rattle.std.proofs.Common.{◌≡◌, ℕ, zero, suc, ◌+◌, ◌*◌, ◌%◌, ◌^◌, ◌<◌, ◌≤◌, List, [], ◌∷◌, ◌++◌, length, Option, Some, slice_get, refl, sym, ap, ◌∙◌, subst, ⊎_elim, arith, lt_of_not-le}
use native.Mathlib.Decide.{dec_le}
use mathlib.Core.Option.{some, some-injective}
use lib.ListN.{get_elem?}
use Rattle.atomic_table.specs.Table.{Allows, Splits, Joins, Final, Seen}
use Rattle.hsm_auth.specs.declared.entry.Entry.{Entry}
use Rattle.hsm_auth.specs.History.{IsLegal, StandsFor}
use Rattle.hsm_desk.specs.declared.view.Known.{Known}
use Rattle.hsm_desk.specs.declared.view.View.{View}
use Rattle.hsm_desk.specs.declared.view.InSlot.{InSlot}
use Rattle.hsm_desk.specs.declared.view.Stage.{Stage}
use Rattle.hsm_desk.specs.declared.view.Stage.TheVariants.{Idle, Waiting, Turn, Met}
use Rattle.hsm_desk.specs.Kin.{Spans, IsCons, IsKin, IsPair, IsSound, Owns, first_pair, kept_kin, new_kin}
use Rattle.hsm_desk.specs.Rule.{viewed, Stands, Ruled, Seated, Draws, Awaits, entry_by, Enters, Learns, left, right, met, spent}
use Rattle.std.proofs.lemmas.Option.{slice_get_within}
use Rattle.hsm_desk.proofs.Histories.{prefix_length, get_append}
use Rattle.hsm_desk.proofs.Kins.{kept_are, new_are, kept_knows, new_knows}
use Rattle.hsm_desk.proofs.Turns.{draws, awaits, enters, splits, joins, learns}

abbrev Carried : Type 0
Carried = List (ℕ × Option InSlot)

-- a fact of a step, at the stage and the slots that a seat has
at_stage : (P : ℕ → Seated → Type 0) (slots : ℕ) (me : Seated) (stage : Stage) (carried : Carried) → slots ≡ 1 → me.0.stage ≡ stage → me.1 ≡ carried → P 1 (viewed me.0.known stage, carried) → P slots me
at_stage P slots me stage carried one st c fact = subst (λ (z : ℕ × Stage × Carried). P z.0 (viewed me.0.known z.1, z.2)) (λ i. (sym one i, sym st i, sym c i)) fact

pub draws_at : (slots id : ℕ) (me : Seated) → slots ≡ 1 → me.0.stage ≡ Idle → me.1 ≡ [] → IsCons me.0.known.kin → Allows Ruled slots id me 1 (λ n. (n + 1) % 2 ^ 64) (Draws me)
draws_at slots id me one st c cons = at_stage (λ k m. Allows Ruled k id m 1 (λ n. (n + 1) % 18446744073709551616) (Draws m)) slots me Idle [] one st c (draws id me.0.known cons)

pub awaits_at : (slots id t : ℕ) (me : Seated) → slots ≡ 1 → me.0.stage ≡ Waiting t → me.1 ≡ [] → Allows Ruled slots id me 0 (λ n. n) (Awaits me)
awaits_at slots id t me one st c = at_stage (λ k m. Allows Ruled k id m 0 (λ n. n) (Awaits m)) slots me (Waiting t) [] one st c (awaits id me.0.known t)

pub enters_at : (slots id t : ℕ) (me : Seated) (x : InSlot) → slots ≡ 1 → me.0.stage ≡ Turn t → me.1 ≡ (0, Some x) ∷ [] → t < 2 ^ 62 → IsLegal (me.0.known.seen ++ entry_by me.0.known.kin x ∷ []) → StandsFor x.ledger.value (me.0.known.seen ++ entry_by me.0.known.kin x ∷ [])
    → Allows Ruled slots id me 0 (λ n. (n + 1) % 2 ^ 64) (Enters me)
enters_at slots id t me x one st c early may stands = at_stage (λ k m. Allows Ruled k id m 0 (λ n. (n + 1) % 18446744073709551616) (Enters m)) slots me (Turn t) ((0, Some x) ∷ []) one st c (enters id t me.0.known.seen me.0.known.kin x early may stands)

pub learns_at : (slots id : ℕ) (me : Seated) (a b : Known) → slots ≡ 1 → me.0.stage ≡ Met a b → me.1 ≡ [] → Allows Ruled slots id me 0 (λ n. n) (λ _. Learns me)
learns_at slots id me a b one st c = at_stage (λ k m. Allows Ruled k id m 0 (λ n. n) (λ _. Learns m)) slots me (Met a b) [] one st c (learns id me.0.known a b)

pub splits_at : (id : ℕ) (v : View) → v.stage ≡ Idle → IsCons v.known.kin → (first_pair v.known.kin).1 ≤ 2 ^ 61 → Splits Ruled id v (left v) (right v)
splits_at id v st cons room = subst (λ (z : Stage). Splits Ruled id (viewed v.known z) (left (viewed v.known z)) (right (viewed v.known z))) (sym st) (splits id v.known cons room)

pub joins_at : (id other : ℕ) (v w : View) → v.stage ≡ Idle → w.stage ≡ Idle → Joins Ruled id v other w (met v w) spent
joins_at id other v w st st' = subst (λ (z : Stage × Stage). Joins Ruled id (viewed v.known z.0) other (viewed w.known z.1) (met (viewed v.known z.0) (viewed w.known z.1)) spent) (λ i. (sym st i, sym st' i)) (joins id other v.known w.known)

pub kept_cons : (kin : List (ℕ × ℕ)) → IsCons kin → IsCons (kept_kin kin)
kept_cons [] cons = absurd (cc (cons.2))
kept_cons (p ∷ ps) cons = ((p.0, 2 * p.1), ps, refl)

pub new_cons : (kin : List (ℕ × ℕ)) → IsCons kin → IsCons (new_kin kin)
new_cons [] cons = absurd (cc (cons.2))
new_cons (p ∷ ps) cons = ((p.0 + p.1, 2 * p.1), [], refl)

pub both_cons : (a b : List (ℕ × ℕ)) → IsCons a → IsCons (a ++ b)
both_cons [] b cons = absurd (cc (cons.2))
both_cons (p ∷ ps) b cons = (p, ps ++ b, refl)

there : {A : Type 0} (xs : List A) (k : ℕ) → k < length xs → (x : A) × (slice_get xs k ≡ Some x)
there [] k far = absurd (omega arith)
there (x ∷ xs) zero far = (x, refl)
there (x ∷ xs) (suc k) far = there xs k (omega arith)

-- a seat whose kin covers every number has seen the whole history
pub whole_length : (log : List Entry) (v : View) → Stands log v → ((x : ℕ) → (j : ℕ) × (q : ℕ × ℕ) × (slice_get v.known.kin j ≡ Some q) × Spans q x) → length log ≡ length v.known.seen
whole_length log v st all = elim (dec_le (length log) (length v.known.seen)) as (λ _. length log ≡ length v.known.seen) [
  | yes d ↦ (let h = prefix_length v.known.seen log st.fits.begins in omega arith)
  | no d ↦ absurd (let k : ℕ = length v.known.seen in let e = there log k (lt_of_not-le d) in let c = all e.0.pass in let near = (st.fits.knows k e.0 e.1 c.0 c.1 c.2 c.3).1 in omega arith)
]

-- what the table has at its end
pub closes : (id : ℕ) (v : View) (words : List ℕ) (slots : List (Option InSlot)) (served : ℕ) → Final (Seen Ruled id v) words slots → get_elem? words 0 ≡ some served
    → (log : List Entry) × Stands log v × (served ≡ length log)
closes id v words slots served end at =
    let s = end.0 in let log = end.1.0.0 in let kept = end.1.0.1 in
    (log, kept.each id v end.1.1, some-injective served (length log) (sym at ∙ (ap (λ (ws : List ℕ). get_elem? ws 0) (sym end.2) ∙ ap (λ (ws : List ℕ). get_elem? ws 0) kept.words_are)))

-- what holds of the passes after a split and a join
pub kept_sound : (seen : List Entry) (kin : List (ℕ × ℕ)) → IsSound seen kin → (first_pair kin).1 ≤ 2 ^ 61 → IsSound seen (kept_kin kin)
kept_sound seen kin sound room = record {
  legal = sound.legal;
  pairs = kept_are kin sound.pairs room;
  own = λ k e there j p at cover. (kept_knows seen seen kin sound.pairs (λ k e there j p at cover. (sound.own k e there j p at cover, slice_get_within seen k e there)) k e there j p at cover).0;
  first = kept_cons kin sound.first;
  few = sound.few;
}

pub new_sound : (seen : List Entry) (kin : List (ℕ × ℕ)) → IsSound seen kin → (first_pair kin).1 ≤ 2 ^ 61 → IsSound seen (new_kin kin)
new_sound seen kin sound room = record {
  legal = sound.legal;
  pairs = new_are kin sound.pairs room;
  own = λ k e there j p at cover. (new_knows seen seen kin sound.pairs (λ k e there j p at cover. (sound.own k e there j p at cover, slice_get_within seen k e there)) k e there j p at cover).0;
  first = new_cons kin sound.first;
  few = sound.few;
}

pub met_sound : (seen : List Entry) (a b : List (ℕ × ℕ)) → IsKin a → IsKin b → IsCons a → IsLegal seen → Owns seen (a ++ b) → length seen ≤ 2 ^ 62 → IsSound seen (a ++ b)
met_sound seen a b pairs pairs' first legal own few = record {
  legal = legal;
  pairs = λ j p is. ⊎_elim (λ (l : slice_get a j ≡ Some p). pairs j p l) (λ (i : (n : ℕ) × (slice_get b n ≡ Some p)). pairs' i.0 p i.1) (get_append a b p j is);
  own = own;
  first = both_cons a b first;
  few = few;
}

pub first_sound : IsSound [] ((0, 1) ∷ [])
first_sound = record { legal = λ i e at. absurd (cc (at)); pairs = only; own = λ k e at j p is cover. absurd (cc (at)); first = ((0, 1), [], refl); few = omega arith }
  where
    only : IsKin ((0, 1) ∷ [])
    only zero p at = let q : ℕ × ℕ = (0, 1) in let e : q ≡ p = cc (at) in let pair : IsPair (0, 1) = record { below = omega arith; power = 0; small = omega arith; step = refl } in subst IsPair e pair
    only (suc j) p at = absurd (cc (at))

-- a joined pass after it looked
pub learnt_sound : (a b : View) (joined new : Seated) → IsSound a.known.seen a.known.kin → IsSound b.known.seen b.known.kin → joined.0 ≡ met a b → Learns joined new → IsSound new.0.known.seen new.0.known.kin
learnt_sound a b joined new sound sound' is learns =
    let kin : new.0.known.kin ≡ a.known.kin ++ b.known.kin = learns.kin ∙ ap (λ (v : View). v.known.kin) is in
    subst (IsSound new.0.known.seen) (sym kin) (met_sound new.0.known.seen a.known.kin b.known.kin sound.pairs sound'.pairs sound.first learns.legal (subst (Owns new.0.known.seen) kin learns.own) learns.few)
